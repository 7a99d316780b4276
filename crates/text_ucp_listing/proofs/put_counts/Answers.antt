-- `text_ucp_listing::put_counts` meets its contract: what is left to put after each of its steps. Assumes nothing.
use Rattle.std.proofs.Common.{ℕ, List, ◌++◌, ◌+◌, ◌≤◌, length, refl, arith}
use Rattle.output_writing.proofs.ToPut.{all_to_put, first_room, first_put, last_room}
use Rattle.ucp_receiver.specs.declared.Counts.{Counts}
use Rattle.text_ucp_listing.specs.Listing.{newline, bytes_word, flags_word, delivered_word, refused_word, skipped_word, open_word, counted, bytes_received, closing_line}
use Rattle.text_ucp_listing.proofs.Whole.{Left, put_all}
use Rattle.text_ucp_listing.proofs.put_counts.Goals as goal

-- what is left behind each count
abbrev behind_open : Counts → List ℕ
behind_open n = newline

abbrev behind_skipped : Counts → List ℕ
behind_skipped n = counted open_word n.unclosed ++ behind_open n

abbrev behind_refused : Counts → List ℕ
behind_refused n = counted skipped_word n.skipped ++ behind_skipped n

abbrev behind_delivered : Counts → List ℕ
behind_delivered n = counted refused_word n.refused ++ behind_refused n

abbrev behind_flags : Counts → List ℕ
behind_flags n = counted delivered_word n.delivered ++ behind_delivered n

abbrev behind_bytes : Counts → List ℕ
behind_bytes n = counted flags_word n.flags ++ behind_flags n

-- octets are left to put, and then the whole is there
at_start : (text : List ℕ) (at : ℕ) (n : Counts) → at + length (closing_line n) ≤ length text
    → Left text at (closing_line n) text at (counted bytes_word (bytes_received n) ++ behind_bytes n)
unfolding closing_line
at_start text at n room = all_to_put text at refl room

pub put_count-at-requires : goal.put_count-at-requires
put_count-at-requires c =
    let d0 = at_start c.args.text.now c.args.at c.args.counts c.requires in
    rw c.received.ensures (first_room (counted bytes_word (bytes_received c.args.counts)) (behind_bytes c.args.counts) d0)

pub put_count-at-requires-2 : goal.put_count-at-requires-2
put_count-at-requires-2 c =
    let d0 = at_start c.args.text.now c.args.at c.args.counts c.requires in
    let d1 = first_put (counted bytes_word (bytes_received c.args.counts)) (behind_bytes c.args.counts) d0 (rw c.received.ensures at c.put_count-at.ensures) in
    first_room (counted flags_word c.args.counts.flags) (behind_flags c.args.counts) d1

pub put_count-at-requires-3 : goal.put_count-at-requires-3
put_count-at-requires-3 c =
    let d0 = at_start c.args.text.now c.args.at c.args.counts c.requires in
    let d1 = first_put (counted bytes_word (bytes_received c.args.counts)) (behind_bytes c.args.counts) d0 (rw c.received.ensures at c.put_count-at.ensures) in
    let d2 = first_put (counted flags_word c.args.counts.flags) (behind_flags c.args.counts) d1 c.put_count-at-2.ensures in
    first_room (counted delivered_word c.args.counts.delivered) (behind_delivered c.args.counts) d2

pub put_count-at-requires-4 : goal.put_count-at-requires-4
put_count-at-requires-4 c =
    let d0 = at_start c.args.text.now c.args.at c.args.counts c.requires in
    let d1 = first_put (counted bytes_word (bytes_received c.args.counts)) (behind_bytes c.args.counts) d0 (rw c.received.ensures at c.put_count-at.ensures) in
    let d2 = first_put (counted flags_word c.args.counts.flags) (behind_flags c.args.counts) d1 c.put_count-at-2.ensures in
    let d3 = first_put (counted delivered_word c.args.counts.delivered) (behind_delivered c.args.counts) d2 c.put_count-at-3.ensures in
    first_room (counted refused_word c.args.counts.refused) (behind_refused c.args.counts) d3

pub put_count-at-requires-5 : goal.put_count-at-requires-5
put_count-at-requires-5 c =
    let d0 = at_start c.args.text.now c.args.at c.args.counts c.requires in
    let d1 = first_put (counted bytes_word (bytes_received c.args.counts)) (behind_bytes c.args.counts) d0 (rw c.received.ensures at c.put_count-at.ensures) in
    let d2 = first_put (counted flags_word c.args.counts.flags) (behind_flags c.args.counts) d1 c.put_count-at-2.ensures in
    let d3 = first_put (counted delivered_word c.args.counts.delivered) (behind_delivered c.args.counts) d2 c.put_count-at-3.ensures in
    let d4 = first_put (counted refused_word c.args.counts.refused) (behind_refused c.args.counts) d3 c.put_count-at-4.ensures in
    first_room (counted skipped_word c.args.counts.skipped) (behind_skipped c.args.counts) d4

pub put_count-at-requires-6 : goal.put_count-at-requires-6
put_count-at-requires-6 c =
    let d0 = at_start c.args.text.now c.args.at c.args.counts c.requires in
    let d1 = first_put (counted bytes_word (bytes_received c.args.counts)) (behind_bytes c.args.counts) d0 (rw c.received.ensures at c.put_count-at.ensures) in
    let d2 = first_put (counted flags_word c.args.counts.flags) (behind_flags c.args.counts) d1 c.put_count-at-2.ensures in
    let d3 = first_put (counted delivered_word c.args.counts.delivered) (behind_delivered c.args.counts) d2 c.put_count-at-3.ensures in
    let d4 = first_put (counted refused_word c.args.counts.refused) (behind_refused c.args.counts) d3 c.put_count-at-4.ensures in
    let d5 = first_put (counted skipped_word c.args.counts.skipped) (behind_skipped c.args.counts) d4 c.put_count-at-5.ensures in
    first_room (counted open_word c.args.counts.unclosed) (behind_open c.args.counts) d5

pub put_newline-requires : goal.put_newline-requires
put_newline-requires c =
    let d0 = at_start c.args.text.now c.args.at c.args.counts c.requires in
    let d1 = first_put (counted bytes_word (bytes_received c.args.counts)) (behind_bytes c.args.counts) d0 (rw c.received.ensures at c.put_count-at.ensures) in
    let d2 = first_put (counted flags_word c.args.counts.flags) (behind_flags c.args.counts) d1 c.put_count-at-2.ensures in
    let d3 = first_put (counted delivered_word c.args.counts.delivered) (behind_delivered c.args.counts) d2 c.put_count-at-3.ensures in
    let d4 = first_put (counted refused_word c.args.counts.refused) (behind_refused c.args.counts) d3 c.put_count-at-4.ensures in
    let d5 = first_put (counted skipped_word c.args.counts.skipped) (behind_skipped c.args.counts) d4 c.put_count-at-5.ensures in
    let d6 = first_put (counted open_word c.args.counts.unclosed) (behind_open c.args.counts) d5 c.put_count-at-6.ensures in
    omega (arith, last_room d6)

pub returns : goal.returns
returns c =
    let d0 = at_start c.args.text.now c.args.at c.args.counts c.requires in
    let d1 = first_put (counted bytes_word (bytes_received c.args.counts)) (behind_bytes c.args.counts) d0 (rw c.received.ensures at c.put_count-at.ensures) in
    let d2 = first_put (counted flags_word c.args.counts.flags) (behind_flags c.args.counts) d1 c.put_count-at-2.ensures in
    let d3 = first_put (counted delivered_word c.args.counts.delivered) (behind_delivered c.args.counts) d2 c.put_count-at-3.ensures in
    let d4 = first_put (counted refused_word c.args.counts.refused) (behind_refused c.args.counts) d3 c.put_count-at-4.ensures in
    let d5 = first_put (counted skipped_word c.args.counts.skipped) (behind_skipped c.args.counts) d4 c.put_count-at-5.ensures in
    let d6 = first_put (counted open_word c.args.counts.unclosed) (behind_open c.args.counts) d5 c.put_count-at-6.ensures in
    put_all d6 c.put_newline.ensures
