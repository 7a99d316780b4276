-- `text_ucp_listing::put_ok` meets its contract: what is left to put after each of its steps. Assumes nothing.
use Rattle.std.proofs.Common.{◌++◌, length, arith}
use Rattle.output_writing.proofs.ToPut.{first_room, first_put, last_room}
use Rattle.text_ucp_listing.specs.Listing.{decimal, hex_octets, newline, ok_word}
use Rattle.text_ucp_listing.proofs.Whole.{ok_left, put_all}
use Rattle.text_ucp_listing.proofs.put_ok.Goals as goal

pub put_word-at-requires : goal.put_word-at-requires
put_word-at-requires c =
    let body = c.args.body.now in
    first_room ok_word (decimal (length body) ++ (hex_octets body ++ newline)) (ok_left c.args.text.now c.args.at body c.requires)

pub put_decimal-at-requires : goal.put_decimal-at-requires
put_decimal-at-requires c =
    let body = c.args.body.now in
    let d1 = first_put ok_word (decimal (length body) ++ (hex_octets body ++ newline)) (ok_left c.args.text.now c.args.at body c.requires) c.put_word-at.ensures in
    first_room (decimal (length body)) (hex_octets body ++ newline) d1

pub put_octets-at-requires : goal.put_octets-at-requires
put_octets-at-requires c =
    let body = c.args.body.now in
    let d1 = first_put ok_word (decimal (length body) ++ (hex_octets body ++ newline)) (ok_left c.args.text.now c.args.at body c.requires) c.put_word-at.ensures in
    first_room (hex_octets body) newline (first_put (decimal (length body)) (hex_octets body ++ newline) d1 c.put_decimal-at.ensures)

pub put_newline-requires : goal.put_newline-requires
put_newline-requires c =
    let body = c.args.body.now in
    let d1 = first_put ok_word (decimal (length body) ++ (hex_octets body ++ newline)) (ok_left c.args.text.now c.args.at body c.requires) c.put_word-at.ensures in
    let d2 = first_put (decimal (length body)) (hex_octets body ++ newline) d1 c.put_decimal-at.ensures in
    omega (arith, last_room (first_put (hex_octets body) newline d2 c.put_octets-at.ensures))

pub returns : goal.returns
returns c =
    let body = c.args.body.now in
    let d1 = first_put ok_word (decimal (length body) ++ (hex_octets body ++ newline)) (ok_left c.args.text.now c.args.at body c.requires) c.put_word-at.ensures in
    let d2 = first_put (decimal (length body)) (hex_octets body ++ newline) d1 c.put_decimal-at.ensures in
    put_all (first_put (hex_octets body) newline d2 c.put_octets-at.ensures) c.put_newline.ensures
