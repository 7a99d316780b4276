-- The octets that a kind's bodies start with. Assumes nothing.
use mathlib.Core.Path.{◌≡◌, refl, sym, ap, ap₂, ◌∙◌}
use mathlib.Core.Bool.{Bool, true, false, ◌&&◌}
use mathlib.Core.List.{List, [], ◌∷◌, ◌++◌}
use Prim.Native.Nat.{ℕ, suc, ◌+◌, ◌≤◌}
use native.Mathlib.Omega.{arith}
use native.Mathlib.Numerals.{add-one}
use borrow.Author.Tests.{eqb-true, eq-eqb}
use lib.Dec.{eqb}
use lib.ListN.{length, get_or, drop}
use lib.Seq.{drop-cons, drop-drop, get_or-drop}
use Rattle.field_format.proofs.Conjunction.{both}
use Rattle.field_format.specs.Format.{stand_at, HasId}

and_true : (b c : Bool) → c ≡ true → (b && c) ≡ b
and_true true c e = e
and_true false c e = refl

-- octets that stand at a place are found there
pub found : (b : Bool) (k : ℕ) (xs rest body : List ℕ) → drop k body ≡ xs ++ rest → stand_at b k xs body ≡ b
found b k [] rest body e = refl
found b k (x ∷ xs) rest body e =
    let n : k ≡ k + 0 = omega arith in
    let first : get_or body k 0 ≡ x = ap (λ (m : ℕ). get_or body m 0) n ∙ sym (get_or-drop k body 0 0) ∙ ap (λ (l : List ℕ). get_or l 0 0) e in
    found (b && eqb (get_or body k 0) x) (k + 1) xs rest body (sym (drop-drop 1 k body) ∙ ap (drop 1) e)
    ∙ and_true b (eqb (get_or body k 0) x) (eq-eqb (get_or body k 0) x first)

before : (b : Bool) (k : ℕ) (xs body : List ℕ) → stand_at b k xs body ≡ true → b ≡ true
before b k [] body h = h
before b k (x ∷ xs) body h = (both b _ (before (b && eqb (get_or body k 0) x) (k + 1) xs body h)).0

-- and octets that are found stand there
stands : (b : Bool) (k : ℕ) (xs body : List ℕ) → stand_at b k xs body ≡ true → k + length xs ≤ length body
    → drop k body ≡ xs ++ drop (k + length xs) body
stands b k [] body h l = let e : k ≡ k + 0 = omega arith in ap (λ (m : ℕ). drop m body) e
stands b k (x ∷ xs) body h l =
    let first = eqb-true (get_or body k 0) x (both b _ (before (b && eqb (get_or body k 0) x) (k + 1) xs body h)).1 in
    let e : k + 1 + length xs ≡ k + suc (length xs) = omega arith in
    drop-cons body k 0 (omega arith)
    ∙ ap₂ (λ (a : ℕ) (m : ℕ). a ∷ drop m body) first (sym (add-one k))
    ∙ ap (λ (ys : List ℕ). x ∷ ys) (stands (b && eqb (get_or body k 0) x) (k + 1) xs body h (omega arith))
    ∙ ap (λ (m : ℕ). x ∷ (xs ++ drop m body)) e

-- ---- a body behind its head
pub head_found : (head rest : List ℕ) → stand_at true 1 (drop 1 head) (head ++ rest) ≡ true
head_found [] rest = refl
head_found (id ∷ xs) rest = found true 1 xs rest (id ∷ (xs ++ rest)) refl

pub head_stands : (head body : List ℕ) → HasId head body → stand_at true 1 (drop 1 head) body ≡ true → length head ≤ length body
    → body ≡ head ++ drop (length head) body
head_stands [] body i h l = refl
head_stands (id ∷ xs) body i h l =
    let e : 1 + length xs ≡ suc (length xs) = omega arith in
    drop-cons body 0 0 (omega arith)
    ∙ ap₂ (λ (a : ℕ) (ys : List ℕ). a ∷ ys) i
    (stands true 1 xs body h (omega arith) ∙ ap (λ (m : ℕ). xs ++ drop m body) e)
