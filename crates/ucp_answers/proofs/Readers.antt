-- The answer to a body by the tests of its kind: the first that fails gives the refusal. Assumes nothing.
use mathlib.Core.Path.{◌≡◌, refl}
use mathlib.Core.Bool.{Bool, true, false, cond}
use Prim.Native.Nat.{ℕ}
use lib.Dec.{eqb}
use Rattle.ucp_answers.specs.Refusals.{unless_refused, refusal_by}

by_length : (fixed range : Bool) → refusal_by false fixed range ≡ 11
unfolding refusal_by
by_length fixed range = refl

by_fixed : (range : Bool) → refusal_by true false range ≡ 12
unfolding refusal_by
by_fixed range = refl

by_field : (range : Bool) (n : ℕ) → cond range 0 13 ≡ n → refusal_by true true range ≡ n
unfolding refusal_by
by_field range n e = e

module _ {A : Type 0} (refused : ℕ → A) where
  pub wrong_length : {right_length : Bool} (fixed range : Bool) (m : A) → right_length ≡ false → refused 11 ≡ unless_refused refused (refusal_by right_length fixed range) m
  wrong_length fixed range m e = rw (e, by_length fixed range)

  pub wrong_fixed : {right_length fixed : Bool} (range : Bool) (m : A) → right_length ≡ true → fixed ≡ false
      → refused 12 ≡ unless_refused refused (refusal_by right_length fixed range) m
  wrong_fixed range m e f = rw (e, f, by_fixed range)

  pub wrong_field : {right_length fixed range : Bool} (m : A) → right_length ≡ true → fixed ≡ true → range ≡ false
      → refused 13 ≡ unless_refused refused (refusal_by right_length fixed range) m
  wrong_field m e f g = rw (e, f, g, by_field false 13 refl)

  -- none fails
  pub right : {right_length fixed range : Bool} {m n : A} → right_length ≡ true → fixed ≡ true → range ≡ true → m ≡ n
      → m ≡ unless_refused refused (refusal_by right_length fixed range) n
  right e f g h = rw (e, f, g, h, by_field true 0 refl)

-- the same answer in other terms
pub in_other_terms : {A B : Type 0} (f : A → B) (refused : ℕ → A) (refusal : ℕ) (message : A)
    → f (unless_refused refused refusal message) ≡ unless_refused (λ n. f (refused n)) refusal (f message)
in_other_terms f refused refusal message = go (eqb refusal 0)
  where
    go : (b : Bool) → f (cond b message (refused refusal)) ≡ cond b (f message) (f (refused refusal))
    go true = refl
    go false = refl
