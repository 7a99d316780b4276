-- A signed number of 64 bits by its sign. Assumes nothing.
use mathlib.Core.Path.{◌≡◌, ap}
use mathlib.Core.Bool.{true, false}
use mathlib.Core.List.{[]}
use Prim.Native.Nat.{◌+◌}
use native.Mathlib.Omega.{arith}
use lib.IntN.{ℤ, pos, nat_abs}
use lib.Signed.{mag, lt_z}
use mir.Syntax.{w64}
use mir.Val.{SFits, to_z, of_z}
use Rattle.field_signed.proofs.Negative.{below_zero, from_zero}
use Rattle.text_output.specs.Text.{codes, minus}

module _ (z : ℤ) (f : SFits w64 z) where
  pub size_negative : lt_z (to_z w64 (of_z w64 z)) (pos 0) ≡ true → nat_abs z ≡ mag z + 1
  size_negative h = let e = below_zero z f h in rw e (omega arith)

  pub size_positive : lt_z (to_z w64 (of_z w64 z)) (pos 0) ≡ false → nat_abs z ≡ mag z
  size_positive h = ap nat_abs (from_zero z f h)

  pub minus_negative : lt_z (to_z w64 (of_z w64 z)) (pos 0) ≡ true → minus z ≡ codes "-"
  minus_negative h = ap minus (below_zero z f h)

  pub minus_positive : lt_z (to_z w64 (of_z w64 z)) (pos 0) ≡ false → minus z ≡ []
  minus_positive h = ap minus (from_zero z f h)
