-- A signed number and its magnitude, by its sign. Assumes nothing.
use mathlib.Core.Path.{◌≡◌, refl, ap, ◌∙◌, subst⁻¹}
use mathlib.Core.Bool.{true, false}
use Prim.Native.Nat.{ℕ, suc, ◌-◌, ◌<◌, ◌≤◌}
use native.Mathlib.Omega.{arith}
use borrow.Author.Tests.{ltb-true, le-ltb}
use lib.IntN.{ℤ, pos, negsuc, ◌-ℤ◌}
use lib.Signed.{mag, lt_z}
use mir.Syntax.{Width, w16, w32}
use mir.Val.{SFits, to_z, of_z}
use mir.ValLaws.{to_z-of_z}
use Rattle.field_signed.specs.Signed.{signed}
use Rattle.field_signed.proofs.Signed.{magnitude_signed}

-- the magnitude fits as the number does
pub magnitude_fits : {w : Width} (z : ℤ) → SFits w z → SFits w (pos (mag z))
magnitude_fits z f = record { sfits = f.sfits }

less_negative : (n : ℕ) → negsuc 0 -ℤ negsuc n ≡ pos n
less_negative n =
    let one : suc n - 1 ≡ n = omega arith in
    rw (le-ltb (suc n) 1 (omega arith)) (ap pos one)

negative : (z : ℤ) → lt_z z (pos 0) ≡ true → z ≡ negsuc (mag z)
negative (pos n) h = let l = ltb-true n 0 h in absurd (omega arith)
negative (negsuc n) h = refl

positive : (z : ℤ) → lt_z z (pos 0) ≡ false → z ≡ pos (mag z)
positive (pos n) h = refl
positive (negsuc n) h = let e : ◌≡◌ {A = ℕ} 0 1 = cc in absurd (omega arith)

module _ {w : Width} (z : ℤ) (f : SFits w z) where
  pub below_zero : lt_z (to_z w (of_z w z)) (pos 0) ≡ true → z ≡ negsuc (mag z)
  below_zero h = negative z (rw (to_z-of_z w z f) at h)

  pub from_zero : lt_z (to_z w (of_z w z)) (pos 0) ≡ false → z ≡ pos (mag z)
  from_zero h = positive z (rw (to_z-of_z w z f) at h)

  -- -1 less a number below 0
  pub turned : lt_z (to_z w (of_z w z)) (pos 0) ≡ true → negsuc 0 -ℤ to_z w (of_z w z) ≡ pos (mag z)
  turned h = ap (λ (y : ℤ). negsuc 0 -ℤ y) (to_z-of_z w z f ∙ below_zero h) ∙ less_negative (mag z)

  pub kept : lt_z (to_z w (of_z w z)) (pos 0) ≡ false → to_z w (of_z w z) ≡ pos (mag z)
  kept h = to_z-of_z w z f ∙ from_zero h

-- ---- 16 bits, carried through 32
pub wider : (z : ℤ) → SFits w16 z → SFits w32 z
wider z f = record { sfits = omega arith }

module _ (half n : ℕ) (some : 0 < half) (few : half ≤ 32768) where
  signed_16 : SFits w16 (signed half n)
  signed_16 = let l = magnitude_signed half n some in record { sfits = omega arith }

  pub narrow_back : (z : ℤ) → z ≡ signed half n → to_z w32 (of_z w32 z) ≡ signed half n
  narrow_back z e = ap (λ (x : ℤ). to_z w32 (of_z w32 x)) e ∙ to_z-of_z w32 (signed half n) (wider (signed half n) signed_16)

  pub narrow_fits : (z : ℤ) → z ≡ signed half n → SFits w16 (to_z w32 (of_z w32 z))
  narrow_fits z e = subst⁻¹ (SFits w16) (narrow_back z e) signed_16
