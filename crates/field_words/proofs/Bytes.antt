-- The octets of a number as the library's methods have them. Assumes nothing.
use mathlib.Core.Path.{◌≡◌, refl, sym, ap, ap₂, ◌∙◌}
use mathlib.Core.List.{List, ◌∷◌}
use Prim.Native.Nat.{ℕ, zero, suc, ◌/◌, ◌%◌, ◌^◌}
use native.Mathlib.Nat.{div-div-eq-div-mul, pow-suc}
use native.Mathlib.Omega.{arith}
use Rattle.std.specs.Int.{w64, to_le_bytes, bytes_low_first, byte_at}
use Rattle.field_words.specs.Words.{octets_up}

at : (i n m : ℕ) → m ≡ n / 256 ^ i → byte_at i n ≡ m % 256
at zero n m e = omega arith
at (suc i) n m e = ap (λ (k : ℕ). k % 256) (sym e)

from : (i k n m : ℕ) → m ≡ n / 256 ^ i → bytes_low_first i k n ≡ octets_up k m
unfolding octets_up
from i zero n m e = refl
from i (suc k) n m e =
    let next : m / 256 ≡ n / 256 ^ suc i =
    ap (λ (q : ℕ). q / 256) e ∙ div-div-eq-div-mul n (256 ^ i) 256 ∙ ap (λ (p : ℕ). n / p) (sym (pow-suc 256 i)) in
    ap₂ (λ (x : ℕ) (xs : List ℕ). x ∷ xs) (at i n m e) (from (suc i) k n (m / 256) next)

pub bytes_up : (n : ℕ) → to_le_bytes w64 n ≡ octets_up 8 n
bytes_up n = from 0 8 n n (omega arith)
