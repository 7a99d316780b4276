-- A writer's two ways, by what its own test of the fields gave: they do not fit, or their body is put. Assumes nothing.
use mathlib.Core.Path.{◌≡◌, refl, sym, ◌∙◌}
use mathlib.Core.Bool.{Bool, true, false, not}
use mathlib.Core.List.{List}
use Prim.Native.Nat.{ℕ}
use borrow.Author.Tests.{not-true, not-false}
use Rattle.std.specs.Prelude.{Err}
use Rattle.refusals.specs.declared.Refusal.TheVariants.{Field}
use Rattle.output_writing.specs.Writing.{Written}
use Rattle.ucp_answers.specs.Writes.{WritesBody, body_due}

module _ {test fits : Bool} (e : test ≡ fits) where
  pub fitting : not test ≡ false → fits ≡ true
  fitting h = sym e ∙ not-false _ h

  pub refused_13 : (body output : List ℕ) → not test ≡ true → WritesBody fits body output (Err Field) output
  unfolding body_due
  refused_13 body output h = record { answers = rw (sym e ∙ not-true _ h); leaves = refl }

  pub body_put : {body octets output after : List ℕ} {answer : Written} → not test ≡ false → octets ≡ body
      → WritesBody true octets output answer after → WritesBody fits body output answer after
  body_put h d w = rw (fitting h, ← d) w
