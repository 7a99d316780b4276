-- A number less 1000, signed. Assumes nothing.
use mathlib.Core.Bool.{Bool, true, false, cond}
use Prim.Native.Nat.{ℕ, suc, ◌-◌, ◌<◌, ◌^◌}
use native.Mathlib.Omega.{arith}
use lib.Dec.{ltb}
use lib.IntN.{pos, negsuc, ◌-ℤ◌}
use lib.Signed.{mag}
use mir.Syntax.{w64}
use mir.Val.{SFits, hbits}

-- less 1000
pub less_fits : (n : ℕ) → n < 2 ^ hbits w64 → SFits w64 (pos n -ℤ pos 1000)
less_fits n h = record { sfits = go (ltb n 1000) }
  where
    go : (t : Bool) → mag (cond t (negsuc (1000 - suc n)) (pos (n - 1000))) < 2 ^ hbits w64
    go true = omega arith
    go false = omega arith
