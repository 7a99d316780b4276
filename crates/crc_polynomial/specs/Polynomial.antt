-- Octets as bits, and long division of binary polynomials by x^16 + x^12 + x^5 + 1 (document 01, "Check and stuffing"). A polynomial
-- is a list of its coefficients, highest first, or a number whose bit i is the coefficient of x^i. Over numbers the sum and the
-- difference of two polynomials are both `bit_xor`. Assumes nothing.
use Rattle.std.specs.Prelude.{Bool, true, false, cond, List, [], ◌∷◌, ◌++◌, ℕ, zero, suc, ◌/◌, ◌%◌, ◌^◌, ◌<◌, ◌+◌, ◌*◌, eqb, leb, get_or, ◌≡◌}
use Rattle.std.specs.Int.Bits.{bit_xor}

-- every element is an octet
abbrev pub Octets : List ℕ → Type 0
Octets xs = (i : ℕ) → get_or xs i 0 < 256

-- the bit that stands for x^0
abbrev pub odd : ℕ → Bool
odd n = eqb (n % 2) 1

-- the w lowest bits of n, most significant first
unfoldable pub bits_of : ℕ → ℕ → List Bool
bits_of zero n = []
bits_of (suc w) n = odd (n / 2 ^ w) ∷ bits_of w n

-- the bits of a list of octets, in the order of the line: first octet first, its most significant bit first
unfoldable pub bits_of_octets : List ℕ → List Bool
bits_of_octets [] = []
bits_of_octets (x ∷ xs) = bits_of 8 x ++ bits_of_octets xs

abbrev pub coefficient : Bool → ℕ
coefficient true = 1
coefficient false = 0

-- x^16 + x^12 + x^5 + 1
abbrev pub generator : ℕ
generator = 0x11021

-- x^16: what has reached it has degree 16 or more
abbrev pub degree16 : ℕ
degree16 = 0x10000

-- One place of the long division: the next coefficient is brought down; where the degree is then 16, the generator goes
-- into it once, and is subtracted.
abbrev pub brought_down : ℕ → Bool → ℕ
brought_down r b = r * 2 + coefficient b

abbrev pub goes_into : ℕ → Bool
goes_into s = leb degree16 s

unfoldable pub reduced : ℕ → ℕ
reduced s = cond (goes_into s) (bit_xor s generator) s

unfoldable pub step : ℕ → Bool → ℕ
step r b = reduced (brought_down r b)

-- what is left of r once all the coefficients are brought down
unfoldable pub divided : ℕ → List Bool → ℕ
divided r [] = r
divided r (b ∷ bs) = divided (step r b) bs

-- the quotient's coefficients, one for each place
unfoldable pub quotient_from : ℕ → List Bool → List Bool
quotient_from r [] = []
quotient_from r (b ∷ bs) = goes_into (brought_down r b) ∷ quotient_from (step r b) bs

abbrev pub remainder : List Bool → ℕ
remainder = divided 0

abbrev pub quotient : List Bool → List Bool
quotient = quotient_from 0

-- n·x^(length qs) plus qs times the generator, by Horner's rule
unfoldable pub times_generator : ℕ → List Bool → ℕ
times_generator n [] = n
times_generator n (q ∷ qs) = times_generator (bit_xor (n * 2) (cond q generator 0)) qs

-- the polynomial of a list of coefficients that follow those of n, as a number
unfoldable pub polynomial : ℕ → List Bool → ℕ
polynomial n [] = n
polynomial n (b ∷ bs) = polynomial (brought_down n b) bs

-- `remainder` is the remainder: the dividend is the quotient times the generator plus it, and its degree is under 16
pub record Divides (bs : List Bool) : Type 0 where
  pub dividend : polynomial 0 bs ≡ bit_xor (times_generator 0 (quotient bs)) (remainder bs)
  pub degree : remainder bs < degree16
