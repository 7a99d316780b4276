-- `crc_x25::check_rest` meets its contract. Assumes nothing.
use mathlib.Core.Path.{◌≡◌, sym, ap, ◌∙◌}
use mathlib.Core.List.{[], ◌∷◌, ◌++◌}
use Prim.Native.Nat.{ℕ, ◌+◌, ◌*◌}
use native.Mathlib.Omega.{arith}
use lib.ListN.{length, take, drop, length-drop}
use lib.Seq.{length-take-le}
use Rattle.field_words.proofs.Chunks.{chunk}
use Rattle.field_words.proofs.Digits.{whole}
use Rattle.crc_x25.specs.Check.{x25_from}
use Rattle.crc_x25.proofs.Step.{part_next}
use Rattle.crc_x25.proofs.check_rest.Goals as goal

pub loop-pair-preserved : goal.loop-pair-preserved
loop-pair-preserved c =
    let l = c.loop-pair in
    let a = c.args in
    let i = l.pair-index * 2 in
    let is = chunk 2 a.octets.now l.pair-index c.as_chunks.ensures.front (omega arith) in
    let size : length (take 2 (drop i a.octets.now)) ≡ 2 = length-take-le 2 _ (omega (arith, length-drop i a.octets.now)) in
    let both = whole 2 _ (ap length is ∙ size) ∙ is in
    let on : (l.pair-index + 1) * 2 ≡ i + 2 = omega arith in
    ap (λ (n : ℕ). x25_from c.next_pair-check.result (drop n a.octets.now ++ a.extra ∷ [])) on
    ∙ ap (λ (n : ℕ). x25_from n (drop (i + 2) a.octets.now ++ a.extra ∷ [])) c.next_pair-check.ensures
    ∙ sym (part_next 2 l.check a.octets.now a.extra i both)
    ∙ l.invariant
