-- Each refusal of a body is given exactly when it is due: 11, then 12, then 13. Assumes nothing.
use mathlib.Core.Path.{◌≡◌, refl, sym}
use mathlib.Core.Bool.{Bool, true, false}
use mathlib.Core.List.{List}
use mathlib.Core.Logic.{◌↔◌}
use Prim.Native.Nat.{ℕ}
use native.Mathlib.Omega.{arith}
use borrow.Author.Tests.{eqb-true, eqb-false, eq-eqb, ne_eqb}
use lib.ListN.{length, drop}
use Rattle.ucp_answers.specs.Refusals.{refusal_by, refusal_of}
use Rattle.field_format.specs.Format.{Format, stand_at, body_size, value_in}

-- what each number says of the three tests
abbrev Due : Bool → Bool → Bool → ℕ → Type 0
Due l x r n =
    ((n ≡ 11) ↔ (l ≡ false)) × ((n ≡ 12) ↔ ((l ≡ true) × (x ≡ false))) × ((n ≡ 13) ↔ ((l ≡ true) × (x ≡ true) × (r ≡ false)))
    × ((n ≡ 0) ↔ ((l ≡ true) × (x ≡ true) × (r ≡ true)))

no : true ≡ false → ⊥
no e = let z : ◌≡◌ {A = ℕ} 0 1 = cc in omega arith

no' : false ≡ true → ⊥
no' e = no (sym e)

due : (l x r : Bool) → Due l x r (refusal_by l x r)
unfolding refusal_by
due false x r = (
  (λ h. refl, λ h. refl),
  (λ h. absurd (omega arith), λ h. absurd (no' h.0)),
  (λ h. absurd (omega arith), λ h. absurd (no' h.0)),
  (λ h. absurd (omega arith), λ h. absurd (no' h.0)),
)
due true false r = (
  (λ h. absurd (omega arith), λ h. absurd (no h)),
  (λ h. (refl, refl), λ h. refl),
  (λ h. absurd (omega arith), λ h. absurd (no' h.1)),
  (λ h. absurd (omega arith), λ h. absurd (no' h.1)),
)
due true true false = (
  (λ h. absurd (omega arith), λ h. absurd (no h)),
  (λ h. absurd (omega arith), λ h. absurd (no h.1)),
  (λ h. (refl, refl, refl), λ h. refl),
  (λ h. absurd (omega arith), λ h. absurd (no' h.2)),
)
due true true true = (
  (λ h. absurd (omega arith), λ h. absurd (no h)),
  (λ h. absurd (omega arith), λ h. absurd (no h.1)),
  (λ h. absurd (omega arith), λ h. absurd (no h.2)),
  (λ h. (refl, refl, refl), λ h. refl),
)

module _ {A : Type 0} (f : Format A) (body : List ℕ) where
  abbrev Fixed : Bool → Type 0
  Fixed b = stand_at true 1 (drop 1 f.head) body ≡ b

  abbrev InRanges : Bool → Type 0
  InRanges b = f.ranges (value_in f body) ≡ b

  pub exactly_11 : (refusal_of f body ≡ 11) ↔ (length body ≡ body_size f → ⊥)
  unfolding refusal_of
  exactly_11 =
      let d = (due _ _ _).0 in
      (λ h. eqb-false (length body) (body_size f) (d.0 h), λ n. d.1 (ne_eqb (length body) (body_size f) n))

  pub exactly_12 : (refusal_of f body ≡ 12) ↔ ((length body ≡ body_size f) × Fixed false)
  unfolding refusal_of
  exactly_12 =
      let d = (due _ _ _).1 in
      (λ h. (eqb-true (length body) (body_size f) (d.0 h).0, (d.0 h).1), λ n. d.1 (eq-eqb (length body) (body_size f) n.0, n.1))

  pub exactly_13 : (refusal_of f body ≡ 13) ↔ ((length body ≡ body_size f) × Fixed true × InRanges false)
  unfolding refusal_of
  exactly_13 =
      let d = (due _ _ _).2 in
      (λ h. (eqb-true (length body) (body_size f) (d.0 h).0, (d.0 h).1, (d.0 h).2), λ n. d.1 (eq-eqb (length body) (body_size f) n.0, n.1, n.2))

  pub exactly_0 : (refusal_of f body ≡ 0) ↔ ((length body ≡ body_size f) × Fixed true × InRanges true)
  unfolding refusal_of
  exactly_0 =
      let d = (due _ _ _).3 in
      (λ h. (eqb-true (length body) (body_size f) (d.0 h).0, (d.0 h).1, (d.0 h).2), λ n. d.1 (eq-eqb (length body) (body_size f) n.0, n.1, n.2))
