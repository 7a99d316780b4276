-- `mavlink_frame::writer::check_of` meets its contract: the check over header, payload and extra in parts. Assumes nothing.
use mathlib.Core.Path.{◌≡◌, sym, ap, ◌∙◌}
use mathlib.Core.List.{List, [], ◌∷◌, ◌++◌}
use Prim.Native.Nat.{ℕ, ◌-◌, ◌≤◌}
use native.Mathlib.Omega.{arith}
use lib.ListN.{length, get_or, drop, length-drop}
use lib.Seq.{drop-cons, take_all}
use Rattle.crc_x25.specs.Check.{x25, x25_from}
use Rattle.crc_x25.proofs.Step.{after}
use Rattle.mavlink_frame.specs.Frame.{covered}
use Rattle.mavlink_frame.proofs.writer.check_of.Goals as goal

-- its first three octets, and the others
three : (p : List ℕ) → 3 ≤ length p → get_or p 0 0 ∷ get_or p 1 0 ∷ get_or p 2 0 ∷ drop 3 p ≡ p
three p h =
    sym
    (drop-cons p 0 0 (omega arith)
    ∙ ap (λ (xs : List ℕ). get_or p 0 0 ∷ xs)
    (drop-cons p 1 0 (omega arith) ∙ ap (λ (xs : List ℕ). get_or p 1 0 ∷ xs) (drop-cons p 2 0 (omega arith))))

pub returns : goal.returns
returns c =
    let a = c.args in
    let k = a.kind in
    let h = a.header in
    let p = a.payload.now in
    let enough : 3 ≤ length p = omega arith in
    let others = drop 3 p ++ k.extra ∷ [] in
    c.x25_after.ensures
    ∙ ap (λ (xs : List ℕ). x25_from c.x25_eight-head.result (xs ++ k.extra ∷ [])) (take_all (length p - 3) (drop 3 p) (simp length-drop (omega arith)))
    ∙ ap (λ (n : ℕ). x25_from n others) (c.x25_eight-head.ensures ∙ ap x25 c.word_of.ensures)
    ∙ after (k.length ∷ h.sequence ∷ h.system ∷ h.component ∷ k.id ∷ get_or p 0 0 ∷ get_or p 1 0 ∷ get_or p 2 0 ∷ []) others
    ∙ ap (λ (q : List ℕ). x25 (covered k h q)) (three p enough)
