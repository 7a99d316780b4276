-- A writer's answers, by its own tests. Assumes nothing.
use mathlib.Core.Path.{◌≡◌, refl, sym, ◌∙◌}
use mathlib.Core.Bool.{Bool, true, false, not}
use mathlib.Core.List.{List, ◌++◌}
use Prim.Native.Nat.{ℕ, ◌<◌, ◌≤◌}
use borrow.Author.Tests.{lt-ltb, le-ltb, not-true, not-false}
use lib.ListN.{length, drop}
use Rattle.std.specs.Prelude.{Ok, Err}
use Rattle.refusals.specs.declared.Refusal.TheVariants.{Field, OutputLength}
use Rattle.ucp_answers.specs.Writes.{body_due, WritesBody}
use Rattle.field_format.specs.Format.{Format, fits, body_of}

module _ {test fits : Bool} (e : test ≡ fits) where
  pub fitting : not test ≡ false → fits ≡ true
  fitting h = sym e ∙ not-false _ h

  pub not_fitting : not test ≡ true → fits ≡ false
  not_fitting h = sym e ∙ not-true _ h

module _ {A : Type 0} (f : Format A) (a : A) (output : List ℕ) where
  pub no_field : fits f a ≡ false → WritesBody (fits f a) (body_of f a) output (Err Field) output
  unfolding body_due
  no_field e = rw e (record { answers = refl; leaves = refl })

  pub no_room : fits f a ≡ true → length output < length (body_of f a)
      → WritesBody (fits f a) (body_of f a) output (Err OutputLength) output
  unfolding body_due
  no_room e h = rw (e, lt-ltb _ _ h) (record { answers = refl; leaves = refl })

  pub written : {n : ℕ} {after : List ℕ} → fits f a ≡ true → length (body_of f a) ≡ n → n ≤ length output
      → after ≡ body_of f a ++ drop n output
      → WritesBody (fits f a) (body_of f a) output (Ok n) after
  unfolding body_due
  written e size h is = rw (e, size, le-ltb _ _ h) (record { answers = refl; leaves = is })
