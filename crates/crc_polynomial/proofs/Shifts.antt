-- Sixteen places of the long division at once, by shifts. Both sides are linear, so that they are equal where they are equal at
-- each power of x, which antt computes. Assumes nothing.
use mathlib.Core.Path.{◌≡◌, refl, ap, ◌∙◌}
use mathlib.Core.Bool.{false, xor}
use Prim.Native.Nat.{ℕ, ◌*◌, ◌/◌, ◌%◌, ◌<◌}
use lib.ListN.{replicate}
use lib.Bits.{bit_xor, xor_shr, xor_mod}
use Rattle.crc_polynomial.specs.Polynomial.{divided, step, reduced}
use Rattle.crc_polynomial.proofs.Laws.{sum, divided_xor}
use Rattle.crc_polynomial.proofs.Linear.{Linear, both, times, agree}

-- the quotient of r·x^16, and what it leaves
abbrev pub quotient : ℕ → ℕ
quotient r = bit_xor (bit_xor (bit_xor (bit_xor r (r / 16)) (r / 256)) (r / 2048)) (r / 4096)

abbrev pub spread : ℕ → ℕ
spread q = bit_xor (bit_xor q (q * 32)) (q * 4096)

abbrev pub left : ℕ → ℕ
left r = spread (quotient r) % 65536

quotient_linear : Linear quotient
quotient_linear =
    both (λ r. bit_xor (bit_xor (bit_xor r (r / 16)) (r / 256)) (r / 2048)) (λ r. r / 4096)
    (both (λ r. bit_xor (bit_xor r (r / 16)) (r / 256)) (λ r. r / 2048)
    (both (λ r. bit_xor r (r / 16)) (λ r. r / 256)
    (both (λ r. r) (λ r. r / 16) (λ a b. refl) (λ a b. xor_shr a b 4))
    (λ a b. xor_shr a b 8))
    (λ a b. xor_shr a b 11))
    (λ a b. xor_shr a b 12)

spread_linear : Linear spread
spread_linear = both (λ q. bit_xor q (q * 32)) (λ q. q * 4096) (both (λ q. q) (λ q. q * 32) (λ a b. refl) (times 5)) (times 12)

pub left_linear : Linear left
left_linear a b =
    ap (λ (q : ℕ). spread q % 65536) (quotient_linear a b)
    ∙ ap (λ (n : ℕ). n % 65536) (spread_linear (quotient a) (quotient b))
    ∙ xor_mod (spread (quotient a)) (spread (quotient b)) 16

-- equal at each power of x, and so at every running remainder
pub sixteen_places : (r : ℕ) → r < 65536 → left r ≡ divided r (replicate 16 false)
unfolding sum xor divided step reduced
sixteen_places r h =
    agree left (λ r. divided r (replicate 16 false)) (λ a b p q. left_linear a b)
    (λ a b p q. divided_xor a b (replicate 16 false) (replicate 16 false) p q refl) 16 refl r h h
