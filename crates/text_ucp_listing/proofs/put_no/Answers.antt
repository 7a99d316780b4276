-- `text_ucp_listing::put_no` meets its contract: what is left to put after each of its steps. Assumes nothing.
use Rattle.std.proofs.Common.{◌++◌, arith}
use Rattle.output_writing.proofs.ToPut.{first_room, first_put, last_room}
use Rattle.text_ucp_listing.specs.Listing.{decimal, newline, no_word}
use Rattle.text_ucp_listing.proofs.Whole.{no_left, put_all}
use Rattle.text_ucp_listing.proofs.put_no.Goals as goal

pub put_word-at-requires : goal.put_word-at-requires
put_word-at-requires c =
    let number = c.args.number in
    first_room no_word (decimal number ++ newline) (no_left c.args.text.now c.args.at number c.requires)

pub put_decimal-at-requires : goal.put_decimal-at-requires
put_decimal-at-requires c =
    let number = c.args.number in
    let d1 = first_put no_word (decimal number ++ newline) (no_left c.args.text.now c.args.at number c.requires) c.put_word-at.ensures in
    first_room (decimal number) newline d1

pub put_newline-requires : goal.put_newline-requires
put_newline-requires c =
    let number = c.args.number in
    let d1 = first_put no_word (decimal number ++ newline) (no_left c.args.text.now c.args.at number c.requires) c.put_word-at.ensures in
    let d2 = first_put (decimal number) newline d1 c.put_decimal-at.ensures in
    omega (arith, last_room d2)

pub returns : goal.returns
returns c =
    let number = c.args.number in
    let d1 = first_put no_word (decimal number ++ newline) (no_left c.args.text.now c.args.at number c.requires) c.put_word-at.ensures in
    put_all (first_put (decimal number) newline d1 c.put_decimal-at.ensures) c.put_newline.ensures
