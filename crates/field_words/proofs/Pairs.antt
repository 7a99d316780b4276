-- The octets of a number two by two. Assumes nothing.
use mathlib.Core.Path.{◌≡◌}
use Prim.Native.Nat.{ℕ, zero, suc, ◌+◌, ◌*◌, ◌/◌, ◌%◌}
use native.Mathlib.Omega.{arith}

unfoldable pub double : ℕ → ℕ
double zero = zero
double (suc k) = suc (suc (double k))

pub two_of : (word : ℕ) → word % 65536 ≡ word / 256 % 256 * 256 + word % 256
two_of word = omega arith
