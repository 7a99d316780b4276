-- The generator has an even number of coefficients that are 1, so a remainder has as many that are 1, odd or even, as what
-- is divided: an odd number of them is never divided without a remainder. Assumes nothing.
use mathlib.Core.Path.{◌≡◌, refl, sym, ap, ap₂, ◌∙◌}
use mathlib.Core.Bool.{Bool, true, false, cond}
use mathlib.Core.List.{List, [], ◌∷◌}
use Prim.Native.Nat.{ℕ, zero, suc, ◌+◌, ◌/◌, ◌%◌, ◌^◌, ◌<◌}
use native.Mathlib.Omega.{arith}
use native.Mathlib.Nat.{pow-suc, add-mod}
use lib.Bits.{bit_xor, differ}
use Rattle.crc_polynomial.specs.Polynomial.{coefficient, degree16, brought_down, goes_into, generator, step, reduced, divided, remainder}
use Rattle.crc_polynomial.proofs.Xor.{digit_cases, half, last, below_two}
use Rattle.crc_polynomial.proofs.Laws.{coefficient_lt, step_lt}
use Rattle.crc_gdl90_strength.proofs.Shape.{weight}

-- how many of the k lowest coefficients are 1
ones : ℕ → ℕ → ℕ
ones zero n = 0
ones (suc k) n = n % 2 + ones k (n / 2)

differ_sum : (x y : ℕ) → x < 2 → y < 2 → differ x y % 2 ≡ (x + y) % 2
differ_sum x y hx hy =
    digit_cases (λ (m : ℕ). differ m y % 2 ≡ (m + y) % 2)
    (digit_cases (λ (n : ℕ). differ 0 n % 2 ≡ (0 + n) % 2) refl refl y hy)
    (digit_cases (λ (n : ℕ). differ 1 n % 2 ≡ (1 + n) % 2) refl refl y hy) x hx

-- sums that are odd or even alike, added
together : (d x p q u v : ℕ) → d % 2 ≡ (p + q) % 2 → x % 2 ≡ (u + v) % 2 → (d + x) % 2 ≡ (p + u + (q + v)) % 2
together d x p q u v e f =
    let regrouped : p + q + (u + v) ≡ p + u + (q + v) = omega arith in
    add-mod d x 2 ∙ ap₂ (λ (m n : ℕ). (m + n) % 2) e f ∙ sym (add-mod (p + q) (u + v) 2) ∙ ap (λ (n : ℕ). n % 2) regrouped

ones_xor : (k a b : ℕ) → ones k (bit_xor a b) % 2 ≡ (ones k a + ones k b) % 2
unfolding ones
ones_xor zero a b = refl
ones_xor (suc k) a b =
    together (bit_xor a b % 2) (ones k (bit_xor a b / 2)) (a % 2) (b % 2) (ones k (a / 2)) (ones k (b / 2))
    (ap (λ (n : ℕ). n % 2) (last a b) ∙ differ_sum (a % 2) (b % 2) (below_two a) (below_two b))
    (ap (λ (n : ℕ). ones k n % 2) (half a b) ∙ ones_xor k (a / 2) (b / 2))

-- a coefficient above all that are there is 0
ones_top : (k n : ℕ) → n < 2 ^ k → ones (suc k) n ≡ ones k n
unfolding ones
ones_top zero n h = omega arith
ones_top (suc k) n h = ap (λ (m : ℕ). n % 2 + m) (ones_top k (n / 2) (omega (arith, pow-suc 2 k)))

ones_down : (k r : ℕ) (b : Bool) → ones (suc k) (brought_down r b) ≡ coefficient b + ones k r
unfolding ones
ones_down k r b =
    let lowest : brought_down r b % 2 ≡ coefficient b = omega (arith, coefficient_lt b) in
    let above : brought_down r b / 2 ≡ r = omega (arith, coefficient_lt b) in
    rw (lowest, above)

generator_ones : ones 17 generator ≡ 4
unfolding ones
generator_ones = refl

ones_reduced : (s : ℕ) → ones 17 (reduced s) % 2 ≡ ones 17 s % 2
unfolding reduced
ones_reduced s = go (goes_into s)
  where
    go : (t : Bool) → ones 17 (cond t (bit_xor s generator) s) % 2 ≡ ones 17 s % 2
    go true = let sum = ones_xor 17 s generator in omega (arith, sum, generator_ones)
    go false = refl

ones_step : (r : ℕ) (b : Bool) → r < degree16 → ones 16 (step r b) % 2 ≡ (coefficient b + ones 16 r) % 2
unfolding step
ones_step r b h =
    ap (λ (n : ℕ). n % 2) (sym (ones_top 16 (step r b) (step_lt r b h)))
    ∙ ones_reduced (brought_down r b) ∙ ap (λ (n : ℕ). n % 2) (ones_down 16 r b)

ones_divided : (r : ℕ) (bs : List Bool) → r < degree16 → ones 16 (divided r bs) % 2 ≡ (weight bs + ones 16 r) % 2
unfolding divided weight
ones_divided r [] h = omega arith
ones_divided r (b ∷ bs) h =
    let e = ones_divided (step r b) bs (step_lt r b h) in
    omega (arith, e, ones_step r b h)

zero_ones : ones 16 0 ≡ 0
unfolding ones
zero_ones = refl

pub even : (bs : List Bool) → remainder bs ≡ 0 → weight bs % 2 ≡ 0
even bs e =
    let left : ones 16 (remainder bs) ≡ 0 = ap (ones 16) e ∙ zero_ones in
    omega (arith, zero_ones, ones_divided 0 bs (omega arith))
