-- A number of two octets, by its octets. Assumes nothing.
use mathlib.Core.Path.{◌≡◌}
use mathlib.Core.List.{List, [], ◌∷◌}
use Prim.Native.Nat.{ℕ, ◌+◌, ◌*◌, ◌/◌, ◌%◌, ◌<◌}
use native.Mathlib.Omega.{arith}
use Rattle.field_signed.specs.Signed.{signed, complement}
use Rattle.field_signed.proofs.Signed.{complement_signed}
use Rattle.c_lent.specs.Steps.{two_of}

module _ (low high : ℕ) (small : low < 256) where
  low_of : (high * 256 + low) % 256 ≡ low
  low_of = omega arith

  high_of : (high * 256 + low) / 256 ≡ high
  high_of = omega arith

  -- least significant octet first, and most significant first
  pub little_two : two_of (high * 256 + low) ≡ low ∷ high ∷ []
  little_two = λ i. low_of i ∷ high_of i ∷ []

  pub big_two : ◌≡◌ {A = List ℕ} ((high * 256 + low) / 256 ∷ (high * 256 + low) % 256 ∷ []) (high ∷ low ∷ [])
  big_two = λ i. high_of i ∷ low_of i ∷ []

  -- by way of its sign
  pub signed_two : high < 256 → complement 32768 (signed 32768 (high * 256 + low)) ≡ high * 256 + low
  signed_two h = complement_signed 32768 (high * 256 + low) (omega arith)
