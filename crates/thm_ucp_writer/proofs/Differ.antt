-- Two lists that are not equal differ in number or in some octet. Assumes nothing.
use mathlib.Core.Path.{◌≡◌, refl, ap₂}
use mathlib.Core.Bool.{Bool, true, false}
use mathlib.Core.List.{List, [], ◌∷◌}
use mathlib.Core.Logic.{inl, inr}
use Prim.Native.Nat.{ℕ, suc}
use native.Mathlib.Omega.{arith}
use borrow.Author.Tests.{eqb-true, eqb-false}
use lib.Dec.{eqb}
use Rattle.thm_ucp_writer.specs.Calls.{DifferInNumberOrOctet}

-- what differs behind two octets still does with them
behind : (x y : ℕ) (xs ys : List ℕ) → DifferInNumberOrOctet xs ys → DifferInNumberOrOctet (x ∷ xs) (y ∷ ys)
behind x y xs ys (inl n) = inl (λ e. n (omega arith))
behind x y xs ys (inr d) =
    let first = d.in_first in
    let second = d.in_second in
    inr (record { place = suc d.place; in_first = omega arith; in_second = omega arith; octets = d.octets })

-- the first octets are the same or not
first : (x y : ℕ) (xs ys : List ℕ) (same : Bool) → eqb x y ≡ same → (x ∷ xs ≡ y ∷ ys → ⊥)
    → ((xs ≡ ys → ⊥) → DifferInNumberOrOctet xs ys) → DifferInNumberOrOctet (x ∷ xs) (y ∷ ys)
first x y xs ys false e h rest =
    inr (record { place = 0; in_first = omega arith; in_second = omega arith; octets = eqb-false x y e })
first x y xs ys true e h rest =
    behind x y xs ys (rest (λ f. h (ap₂ (λ (n : ℕ) (l : List ℕ). n ∷ l) (eqb-true x y e) f)))

pub differ_so : (xs ys : List ℕ) → (xs ≡ ys → ⊥) → DifferInNumberOrOctet xs ys
differ_so [] [] h = absurd (h refl)
differ_so [] (y ∷ ys) h = inl (λ e. omega arith)
differ_so (x ∷ xs) [] h = inl (λ e. omega arith)
differ_so (x ∷ xs) (y ∷ ys) h = first x y xs ys (eqb x y) refl h (differ_so xs ys)
