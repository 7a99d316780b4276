-- `ucp_writer::in_place::move_word` meets its contract: where eight octets are plain, they go as they are. Assumes nothing.
use mathlib.Core.Path.{◌≡◌, refl, sym, ap, ◌∙◌}
use mathlib.Core.List.{List}
use Prim.Native.Nat.{ℕ, ◌-◌, ◌≤◌}
use native.Mathlib.Omega.{arith}
use lib.ListN.{length, take, drop}
use lib.Seq.{sets}
use Rattle.field_words.specs.Words.{octets_up}
use Rattle.ucp_frame.specs.Frame.{stuffed}
use Rattle.ucp_writer.proofs.in_place.Moves.{to_move, part_room, part_moved}
use Rattle.ucp_writer.proofs.in_place.move_word.Goals as goal

plain : (word : ℕ) {part : List ℕ} → octets_up 8 word ≡ part → stuffed (octets_up 8 word) ≡ octets_up 8 word → stuffed part ≡ part
plain word is e = ap stuffed (sym is) ∙ e ∙ is

size : (word : ℕ) {part : List ℕ} → octets_up 8 word ≡ part → stuffed (octets_up 8 word) ≡ octets_up 8 word → length (stuffed part) ≡ 8
unfolding octets_up
size word is e = ap length (ap stuffed (sym is) ∙ e)

pub overflow_sub-at : goal.overflow_sub-at
overflow_sub-at c =
    omega (
      arith,
      size c.little_64-word.result c.little_64-word.ensures (c.is_plain.ensures c.if-is_plain.true),
      part_room (to_move c.requires) 8 c.args.from refl,
    )

pub returns-then-is_plain : goal.returns-then-is_plain
returns-then-is_plain c =
    let is = c.little_64-word.ensures in
    let e = c.is_plain.ensures c.if-is_plain.true in
    let n : length (stuffed (take 8 (drop c.args.from c.args.buffer.now))) ≡ 8 = size c.little_64-word.result is e in
    let room : 8 ≤ c.args.end = omega (arith, n, part_room (to_move c.requires) 8 c.args.from refl) in
    part_moved (to_move c.requires) 8 c.args.from refl (omega (arith, n, room))
    (c.put_64.ensures ∙ ap (sets c.args.buffer.now (c.args.end - 8)) (is ∙ sym (plain c.little_64-word.result is e)))
