-- A number's octets, least significant first, are a run of its format. Assumes nothing.
use Rattle.std.proofs.Common.{◌≡◌, [], ◌∷◌, ℕ, ◌/◌, ◌%◌, ◌<◌, ℤ, pos, negsuc, arith, rules, take}
use Rattle.std.specs.Int.{w16, w32, to_le_bytes, byte_at, cast_unsigned}
use mir.Val.{SFits, to_z, of_z}
use mir.ValLaws.{to_z-of_z}
use Rattle.field_layout.specs.Layout.{low, run_octets}
use Rattle.field_signed.specs.Signed.{complement}

pub low_2 : (n : ℕ) → n < 65536 → to_le_bytes w16 n ≡ run_octets (low 2) (n ∷ [])
low_2 n f = search rules

pub low_4 : (n : ℕ) → n < 4294967296 → to_le_bytes w32 n ≡ run_octets (low 4) (n ∷ [])
low_4 n f =
    let a : byte_at 0 n ≡ n % 16777216 % 65536 % 256 = omega arith in
    let b : byte_at 1 n ≡ n % 16777216 % 65536 / 256 = omega arith in
    let d : byte_at 2 n ≡ n % 16777216 / 65536 = omega arith in
    let e : byte_at 3 n ≡ n / 16777216 = omega arith in
    λ i. a i ∷ b i ∷ d i ∷ e i ∷ []

-- a number of 24 bits
pub low_3 : (n : ℕ) → n < 16777216 → take 3 (to_le_bytes w32 n) ≡ run_octets (low 3) (n ∷ [])
low_3 n f =
    let a : byte_at 0 n ≡ n % 65536 % 256 = omega arith in
    let b : byte_at 1 n ≡ n % 65536 / 256 = omega arith in
    let d : byte_at 2 n ≡ n / 65536 = omega arith in
    λ i. a i ∷ b i ∷ d i ∷ []

-- a signed number's, as a struct holds it
pub signed_2 : (z : ℤ) → SFits w16 z → to_le_bytes w16 (cast_unsigned w16 (to_z w16 (of_z w16 z))) ≡ run_octets (low 2) (complement 32768 z ∷ [])
signed_2 z f = rw (to_z-of_z w16 z f) (by z f)
  where
    by : (z : ℤ) → SFits w16 z → to_le_bytes w16 (cast_unsigned w16 z) ≡ run_octets (low 2) (complement 32768 z ∷ [])
    by (pos n) f = low_2 n (omega (arith, f.sfits))
    by (negsuc n) f = low_2 _ (omega (arith, f.sfits))

pub signed_4 : (z : ℤ) → SFits w32 z → to_le_bytes w32 (cast_unsigned w32 (to_z w32 (of_z w32 z))) ≡ run_octets (low 4) (complement 2147483648 z ∷ [])
signed_4 z f = rw (to_z-of_z w32 z f) (by z f)
  where
    by : (z : ℤ) → SFits w32 z → to_le_bytes w32 (cast_unsigned w32 z) ≡ run_octets (low 4) (complement 2147483648 z ∷ [])
    by (pos n) f = low_4 n (omega (arith, f.sfits))
    by (negsuc n) f = low_4 _ (omega (arith, f.sfits))
