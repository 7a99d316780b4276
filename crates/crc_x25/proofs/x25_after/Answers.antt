-- `crc_x25::x25_after` meets its contract. Assumes nothing.
use mathlib.Core.Path.{◌≡◌, sym, ap, ◌∙◌}
use mathlib.Core.List.{[], ◌∷◌, ◌++◌}
use Prim.Native.Nat.{ℕ, ◌+◌, ◌*◌}
use native.Mathlib.Omega.{arith}
use lib.ListN.{drop}
use Rattle.field_words.proofs.Chunks.{chunk}
use Rattle.crc_x25.specs.Check.{x25_from}
use Rattle.crc_x25.proofs.Step.{part_next}
use Rattle.crc_x25.proofs.x25_after.Goals as goal

pub loop-word-preserved : goal.loop-word-preserved
loop-word-preserved c =
    let l = c.loop-word in
    let a = c.args in
    let i = l.word-index * 8 in
    let is = c.word.ensures ∙ chunk 8 a.octets.now l.word-index c.as_chunks.ensures.front (omega arith) in
    let on : (l.word-index + 1) * 8 ≡ i + 8 = omega arith in
    ap (λ (n : ℕ). x25_from c.next_eight-check.result (drop n a.octets.now ++ a.extra ∷ [])) on
    ∙ ap (λ (n : ℕ). x25_from n (drop (i + 8) a.octets.now ++ a.extra ∷ [])) c.next_eight-check.ensures
    ∙ sym (part_next 8 l.check a.octets.now a.extra i is)
    ∙ l.invariant
