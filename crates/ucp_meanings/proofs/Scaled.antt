-- Numbers of 16 bits, scaled within 32, and of 32 bits within 64. Assumes nothing.
use mathlib.Core.Path.{◌≡◌, refl}
use mathlib.Core.Bool.{Bool, true, false, cond}
use Prim.Native.Nat.{ℕ, zero, suc, ◌-◌, ◌*◌, ◌/◌, ◌≤◌, ◌<◌}
use native.Mathlib.Nat.{mul-le-mul}
use native.Mathlib.Omega.{arith}
use borrow.Author.Tests.{eq-eqb, ne_eqb}
use lib.Dec.{ltb}
use lib.IntN.{ℤ, pos, negsuc, neg_ℤ, ◌-ℤ◌, ◌*ℤ◌}
use lib.Signed.{mag, quot_z}
use mir.Syntax.{w16, w32, w64}
use mir.Val.{SFits, of_z}
use Rattle.ucp_meanings.specs.Meanings.{is_no_rate}

negative_mag : (n : ℕ) → mag (neg_ℤ (pos n)) ≤ n
negative_mag zero = omega arith
negative_mag (suc n) = omega arith

pub times_fits : (z : ℤ) (k : ℕ) → SFits w16 z → k ≤ 64 → SFits w32 (z *ℤ pos k)
times_fits (pos n) k f h =
    let few : n ≤ 32768 = omega arith in
    let l : n * k ≤ 2097152 = mul-le-mul few h in
    record { sfits = omega arith }
times_fits (negsuc n) k f h =
    let few : suc n ≤ 32768 = omega arith in
    let l : suc n * k ≤ 2097152 = mul-le-mul few h in
    record { sfits = omega (arith, negative_mag (suc n * k)) }

pub less_fits : (n : ℕ) → n < 2147483648 → SFits w32 (pos n -ℤ pos 1000)
less_fits n h = record { sfits = go (ltb n 1000) }
  where
    go : (t : Bool) → mag (cond t (negsuc (1000 - suc n)) (pos (n - 1000))) < 2147483648
    go true = omega arith
    go false = omega arith

-- the bits F800 mean -2048, and no other bits do
pub no_rate : (z : ℤ) → SFits w16 z → of_z w16 z ≡ 63488 → is_no_rate z ≡ true
no_rate (pos n) f e = absurd (omega arith)
no_rate (negsuc n) f e = eq-eqb n 2047 (omega arith)

pub some_rate : (z : ℤ) → SFits w16 z → (of_z w16 z ≡ 63488 → ⊥) → is_no_rate z ≡ false
some_rate (pos n) f h = refl
some_rate (negsuc n) f h = ne_eqb n 2047 (λ e. h (omega arith))

-- ---- degrees

pub wider : (z : ℤ) → SFits w32 z → SFits w64 z
wider z f = record { sfits = omega arith }

pub scaled_fits : (z : ℤ) → SFits w32 z → SFits w64 (z *ℤ pos 1800000000)
scaled_fits (pos n) f = record { sfits = omega arith }
scaled_fits (negsuc n) f = record { sfits = omega (arith, negative_mag (suc n * 1800000000)) }

pub steps_fit : (z : ℤ) → SFits w64 z → SFits w64 (quot_z z (pos 8388608))
steps_fit (pos n) f = record { sfits = omega arith }
steps_fit (negsuc n) f = record { sfits = omega (arith, negative_mag (suc n / 8388608)) }
