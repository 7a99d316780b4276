-- `text_ucp_listing::put_closing` meets its contract: there is room for the longest line. Assumes nothing.
use Rattle.std.proofs.Common.{◌+◌, ◌≤◌, length, arith}
use borrow.Author.Tests.{le-leb}
use Rattle.text_ucp_listing.specs.Listing.{longest_closing}
use Rattle.text_ucp_listing.proofs.Longest.{closing_most}
use Rattle.text_ucp_listing.proofs.put_closing.Goals as goal

pub put_counts-requires : goal.put_counts-requires
put_counts-requires c =
    omega (arith, closing_most c.args.counts (omega (arith, c.well_formed)) (omega (arith, c.well_formed)) (omega (arith, c.well_formed)) (omega (arith, c.well_formed)) (omega (arith, c.well_formed)))

pub returns : goal.returns
returns c =
    let put = c.put_counts.ensures in
    let room : c.args.at + longest_closing ≤ length c.args.text.now = omega arith in
    let long = closing_most c.args.counts (omega (arith, c.well_formed)) (omega (arith, c.well_formed)) (omega (arith, c.well_formed)) (omega (arith, c.well_formed)) (omega (arith, c.well_formed)) in
    rw (le-leb _ _ room) (record { puts = put; within = omega (arith, put.ends, room, long) })
