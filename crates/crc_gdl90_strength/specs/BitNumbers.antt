-- The bits of a body by number (document 01, "Demand 3 in exact terms"). Assumes nothing.
use Rattle.std.specs.Prelude.{◌≡◌, Bool, true, List, ℕ, zero, suc, ◌+◌, ◌-◌, ◌/◌, ◌%◌, ◌^◌, ◌≤◌, get_or}
use Rattle.std.specs.Bool.{xor}
use Rattle.crc_polynomial.specs.Polynomial.{odd, coefficient}

-- bit number 8i+j of a body, j from 0 to 7, lies j places below the most significant bit of octet i
abbrev pub bit_number : List ℕ → ℕ → Bool
bit_number body k = odd (get_or body (k / 8) 0 / 2 ^ (7 - k % 8))

abbrev pub differ_at : List ℕ → List ℕ → ℕ → Bool
differ_at a b k = xor (bit_number a k) (bit_number b k)

-- how many of the bits numbered below n differ
unfoldable pub differ_below : List ℕ → List ℕ → ℕ → ℕ
differ_below a b zero = 0
differ_below a b (suc n) = differ_below a b n + coefficient (differ_at a b n)

-- the number of the last bit that differs is at most `above` above that of the first
abbrev pub DifferWithin : ℕ → List ℕ → List ℕ → Type 0
DifferWithin above a b = (first last : ℕ) → differ_at a b first ≡ true → differ_at a b last ≡ true → last ≤ first + above
