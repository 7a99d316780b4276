-- `crc_gdl90::check_words` meets its contract. Assumes nothing.
use mathlib.Core.Path.{◌≡◌, sym, ap, ◌∙◌}
use Prim.Native.Nat.{ℕ, ◌+◌, ◌*◌}
use native.Mathlib.Omega.{arith}
use lib.ListN.{drop}
use Rattle.field_words.proofs.Chunks.{chunk}
use Rattle.crc_polynomial.specs.Polynomial.{bits_of_octets, divided}
use Rattle.crc_gdl90.proofs.Eight.{part_first}
use Rattle.crc_gdl90.proofs.check_words.Goals as goal

pub loop-word-preserved : goal.loop-word-preserved
loop-word-preserved c =
    let l = c.loop-word in
    let octets = c.args.octets.now in
    let is = c.turned.ensures ∙ c.word.ensures ∙ chunk 8 octets l.word-index c.as_chunks.ensures.front (omega arith) in
    let on : (l.word-index + 1) * 8 ≡ l.word-index * 8 + 8 = omega arith in
    ap (λ (i : ℕ). divided c.next_check_eight-check.result (bits_of_octets (drop i octets))) on
    ∙ ap (λ (r : ℕ). divided r (bits_of_octets (drop (l.word-index * 8 + 8) octets))) c.next_check_eight-check.ensures.0
    ∙ sym (part_first 8 l.check octets (l.word-index * 8) _ is)
    ∙ l.invariant
