-- What a reader of one kind answers, test by test. Assumes nothing.
use mathlib.Core.Path.{◌≡◌, refl, sym, ◌∙◌}
use mathlib.Core.Bool.{Bool, true, false}
use mathlib.Core.List.{List}
use Prim.Native.Nat.{ℕ}
use native.Mathlib.Omega.{arith}
use borrow.Author.Tests.{lt-ltb, le-ltb, eq-eqb, ne_eqb, eqb-true, eqb-false}
use lib.Dec.{eqb}
use lib.ListN.{length, get_or, drop}
use Rattle.field_format.specs.Format.{Format, stand_at, body_size, value_in}
use Rattle.ucp_answers.specs.Refusals.{refusal_by, refusal_of}
use Rattle.ucp_answers.proofs.Refusals.{exactly_11, exactly_12, exactly_13, exactly_0}
use Rattle.refusals.specs.Refusals.{refusal_number}
use Rattle.refusals.specs.declared.Refusal.{Refusal}
use Rattle.refusals.specs.declared.Refusal.TheVariants as it
use Rattle.c_lent.specs.Structs.{Struct, stored}
use Rattle.c_lent.specs.Reads.{has_id, refusal_as, ReadsInto}
use Rattle.c_lent.specs.Steps.{first_refusal}

-- no refusal has the number 0
pub some_number : (r : Refusal) → refusal_number r ≡ 0 → ⊥
some_number it.BadEscape e = omega arith
some_number it.EscapeBeforeFlag e = omega arith
some_number it.TooLong e = omega arith
some_number it.TooShort e = omega arith
some_number it.WrongCheck e = omega arith
some_number it.Room e = omega arith
some_number it.BodyLength e = omega arith
some_number it.OutputLength e = omega arith
some_number it.UnknownId e = omega arith
some_number it.MessageLength e = omega arith
some_number it.Fixed e = omega arith
some_number it.Field e = omega arith
some_number it.MavlinkShort e = omega arith
some_number it.MavlinkStart e = omega arith
some_number it.MavlinkUnknownId e = omega arith
some_number it.MavlinkLength e = omega arith
some_number it.MavlinkWrongCheck e = omega arith
some_number it.MavlinkField e = omega arith

its_id : (id : ℕ) (body : List ℕ) → (length body ≡ 0 → ⊥) → get_or body 0 0 ≡ id → has_id id body ≡ true
its_id id body some is = rw (lt-ltb 0 (length body) (omega arith), eq-eqb _ _ is)

no-id : (id : ℕ) (body : List ℕ) → length body ≡ 0 → has_id id body ≡ false
no-id id body h = rw (le-ltb 0 (length body) (omega arith))

not-its-id : (id : ℕ) (body : List ℕ) → (length body ≡ 0 → ⊥) → (get_or body 0 0 ≡ id → ⊥) → has_id id body ≡ false
not-its-id id body some differs = rw (lt-ltb 0 (length body) (omega arith), ne_eqb _ _ differs)

-- the first two tests, by what they find
module _ (id size : ℕ) (body : List ℕ) where
  first-other : has_id id body ≡ false → first_refusal id size body ≡ 10
  unfolding refusal_as
  first-other h = rw h

  first-size : has_id id body ≡ true → eqb (length body) size ≡ false → first_refusal id size body ≡ 11
  unfolding refusal_as refusal_by
  first-size h e = rw (h, e)

  first-right : has_id id body ≡ true → eqb (length body) size ≡ true → first_refusal id size body ≡ 0
  unfolding refusal_as refusal_by
  first-right h e = rw (h, e)

  -- the same by the code's tests
  pub first-10 : length body ≡ 0 → 10 ≡ first_refusal id size body
  first-10 h = sym (first-other (no-id id body h))

  pub first-10-too : (length body ≡ 0 → ⊥) → (get_or body 0 0 ≡ id → ⊥) → 10 ≡ first_refusal id size body
  first-10-too some differs = sym (first-other (not-its-id id body some differs))

  module _ (some : length body ≡ 0 → ⊥) (is : get_or body 0 0 ≡ id) where
    pub first-11 : (length body ≡ size → ⊥) → 11 ≡ first_refusal id size body
    first-11 n = sym (first-size (its_id id body some is) (ne_eqb _ _ n))

    pub first-0 : length body ≡ size → 0 ≡ first_refusal id size body
    first-0 n = sym (first-right (its_id id body some is) (eq-eqb _ _ n))

  -- past both
  pub past_first : 0 ≡ first_refusal id size body → (has_id id body ≡ true) × (length body ≡ size)
  past_first none = go (has_id id body) refl (eqb (length body) size) refl
    where
      go : (own : Bool) → has_id id body ≡ own → (right : Bool) → eqb (length body) size ≡ right → (has_id id body ≡ true) × (length body ≡ size)
      go false h right e = absurd (omega (arith, none, first-other h))
      go true h false e = absurd (omega (arith, none, first-size h e))
      go true h true e = (h, eqb-true _ _ e)

module _ {A : Type 0} (f : Format A) (s : Struct A) (body before : List ℕ) where
  abbrev id : ℕ
  id = get_or f.head 0 0

  other-kind : has_id id body ≡ false → ReadsInto f s body before 10 before
  unfolding refusal_as
  other-kind h = rw h (record { answers = refl; leaves = refl })

  module _ (own : has_id id body ≡ true) where
    refused : (number : ℕ) → refusal_of f body ≡ number → (number ≡ 0 → ⊥) → ReadsInto f s body before number before
    unfolding refusal_as
    refused number e some = rw (own, e) (record { answers = refl; leaves = rw (ne_eqb _ _ some) })

    refused_11 : (length body ≡ body_size f → ⊥) → ReadsInto f s body before 11 before
    refused_11 n = refused 11 ((exactly_11 f body).1 n) (omega arith)

    module _ (n : length body ≡ body_size f) where
      pub refused_12 : stand_at true 1 (drop 1 f.head) body ≡ false → ReadsInto f s body before 12 before
      refused_12 h = refused 12 ((exactly_12 f body).1 (n, h)) (omega arith)

      module _ (h : stand_at true 1 (drop 1 f.head) body ≡ true) where
        pub refused_13 : f.ranges (value_in f body) ≡ false → ReadsInto f s body before 13 before
        refused_13 r = refused 13 ((exactly_13 f body).1 (n, h, r)) (omega arith)

        pub read : {after : List ℕ} → f.ranges (value_in f body) ≡ true → after ≡ stored s (value_in f body)
            → ReadsInto f s body before 0 after
        unfolding refusal_as
        read r is = rw (own, (exactly_0 f body).1 (n, h, r)) (record { answers = refl; leaves = is })

  pub first-refused : (r : Refusal) → refusal_number r ≡ first_refusal id (body_size f) body → ReadsInto f s body before (refusal_number r) before
  first-refused r is = go (has_id id body) refl (eqb (length body) (body_size f)) refl
    where
      go : (own : Bool) → has_id id body ≡ own → (right : Bool) → eqb (length body) (body_size f) ≡ right → ReadsInto f s body before (refusal_number r) before
      go false h right e = rw (is ∙ first-other id (body_size f) body h) (other-kind h)
      go true h false e = rw (is ∙ first-size id (body_size f) body h e) (refused_11 h (eqb-false _ _ e))
      go true h true e = absurd (some_number r (is ∙ first-right id (body_size f) body h e))
