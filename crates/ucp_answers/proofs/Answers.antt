-- A reader's answers by a kind's format: the first test that fails gives the refusal. Assumes nothing.
use mathlib.Core.Path.{◌≡◌, sym, ap, ◌∙◌}
use mathlib.Core.Bool.{true, false}
use mathlib.Core.List.{List}
use Prim.Native.Nat.{ℕ}
use borrow.Author.Tests.{eq-eqb, ne_eqb}
use lib.Dec.{eqb}
use lib.ListN.{length, drop}
use Rattle.ucp_answers.proofs.Readers.{wrong_length, wrong_fixed, wrong_field, right, in_other_terms}
use Rattle.field_format.specs.Format.{Format, stand_at, body_size, value_in}
use Rattle.ucp_answers.specs.Refusals.{refusal_of, reads}

module _ {A B : Type 0} (f : Format A) (refused : ℕ → B) (means : A → B) (body : List ℕ) where
  pub refused_11 : (length body ≡ body_size f → ⊥) → refused 11 ≡ reads f refused means body
  unfolding reads refusal_of
  refused_11 n = wrong_length refused _ _ _ (ne_eqb _ _ n)

  pub refused_12 : length body ≡ body_size f → stand_at true 1 (drop 1 f.head) body ≡ false → refused 12 ≡ reads f refused means body
  unfolding reads refusal_of
  refused_12 n h = wrong_fixed refused _ _ (eq-eqb _ _ n) h

  module _ (n : length body ≡ body_size f) (h : stand_at true 1 (drop 1 f.head) body ≡ true) {a : A} (e : a ≡ value_in f body) where
    pub refused_13 : f.ranges a ≡ false → refused 13 ≡ reads f refused means body
    unfolding reads refusal_of
    refused_13 r = wrong_field refused _ (eq-eqb _ _ n) h (ap f.ranges (sym e) ∙ r)

    pub accepted : f.ranges a ≡ true → means a ≡ reads f refused means body
    unfolding reads refusal_of
    accepted r = right refused (eq-eqb _ _ n) h (ap f.ranges (sym e) ∙ r) (ap means e)

-- the same answer in other terms
pub in-terms-of : {A B C : Type 0} (f : Format A) (g : B → C) (refused : ℕ → B) (means : A → B) (body : List ℕ)
    → g (reads f refused means body) ≡ reads f (λ n. g (refused n)) (λ a. g (means a)) body
unfolding reads
in-terms-of f g refused means body = in_other_terms g refused (refusal_of f body) (means (value_in f body))

-- an octet that was found is another than the fixed one, or the same
module _ {x found octet : ℕ} (e : found ≡ octet) where
  pub other : (found ≡ x → ⊥) → eqb octet x ≡ false
  other h = ap (λ (n : ℕ). eqb n x) (sym e) ∙ ne_eqb _ _ h

  pub same : found ≡ x → eqb octet x ≡ true
  same h = ap (λ (n : ℕ). eqb n x) (sym e) ∙ eq-eqb _ _ h
