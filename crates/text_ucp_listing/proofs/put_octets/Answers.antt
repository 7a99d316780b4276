-- `text_ucp_listing::put_octets` meets its contract, octet by octet. Assumes nothing.
use Rattle.std.proofs.Common.{[], ◌+◌, get_or, drop, arith}
use Rattle.output_writing.proofs.ToPut.{first_room, first_put}
use Rattle.text_ucp_listing.specs.Listing.{hex_octet, hex_octets}
use Rattle.text_ucp_listing.proofs.Whole.{Left}
use Rattle.text_ucp_listing.proofs.Octets.{octet_next, no_octet}
use Rattle.text_ucp_listing.proofs.put_octets.Goals as goal

pub put_three-at-requires : goal.put_three-at-requires
put_three-at-requires c =
    let l = c.loop-octet in
    first_room (hex_octet (get_or c.args.body.now l.octet-index 0)) _ (rw (octet_next _ l.octet-index c.loop-octet-test.true) at l.invariant)

pub loop-octet-preserved : goal.loop-octet-preserved
loop-octet-preserved c =
    let l = c.loop-octet in
    let body = c.args.body.now in
    first_put (hex_octet (get_or body l.octet-index 0)) (hex_octets (drop (l.octet-index + 1) body)) (rw (octet_next _ l.octet-index c.loop-octet-test.true) at l.invariant)
    (rw (c.hex_digit.ensures, c.hex_digit-in-loop-octet.ensures) at c.put_three-at.ensures)

pub returns : goal.returns
returns c =
    let l = c.loop-octet in
    let left : Left c.args.text.now c.args.at (hex_octets c.args.body.now) l.text l.at [] = rw (no_octet _ l.octet-index c.loop-octet-test.false) at l.invariant in
    record { ends = omega (arith, left.ends); leaves = left.gives }
