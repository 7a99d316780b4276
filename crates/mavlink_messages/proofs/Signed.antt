-- Signed numbers, as a struct holds them. Assumes nothing.
use mathlib.Core.Path.{◌≡◌, ap, ◌∙◌}
use Prim.Native.Nat.{ℕ, ◌^◌, ◌<◌}
use lib.IntN.{ℤ}
use lib.Signed.{mag}
use mir.Syntax.{Width, w16, w32}
use mir.Val.{SFits, to_z, of_z, hbits}
use mir.ValLaws.{to_z-of_z}
use Rattle.field_signed.specs.Signed.{signed}

-- put into a struct
pub taken : (w : Width) (half : ℕ) {a b : ℕ} {z : ℤ} → z ≡ signed half a → SFits w z → a ≡ b → to_z w (of_z w z) ≡ signed half b
taken w half {z = z} e f q = to_z-of_z w z f ∙ e ∙ ap (signed half) q

-- ---- at the two widths that the messages have

pub taken_16 : {a b : ℕ} {z : ℤ} → z ≡ signed 32768 a → mag z < 2 ^ hbits w16 → a ≡ b → to_z w16 (of_z w16 z) ≡ signed 32768 b
taken_16 e f q = taken w16 32768 e (record { sfits = f }) q

pub taken_32 : {a b : ℕ} {z : ℤ} → z ≡ signed 2147483648 a → mag z < 2 ^ hbits w32 → a ≡ b → to_z w32 (of_z w32 z) ≡ signed 2147483648 b
taken_32 e f q = taken w32 2147483648 e (record { sfits = f }) q
