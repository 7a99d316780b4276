-- What the rule of the squawk decides (document 02, c): which numbers are codes, which Mode A code each of them is, and how many
-- there are. Assumes nothing.
use Rattle.std.specs.Prelude.{◌≡◌, Bool, true, cond, ◌↔◌, ℕ, zero, suc, ◌+◌, ◌*◌, ◌/◌, ◌%◌, ◌≤◌, ◌<◌}
use Rattle.field_codes.specs.Codes.{is_squawk}

-- four octal digits, sent as a decimal number
pub record FourOctalDigits (number : ℕ) : Type 0 where
  pub a : ℕ
  pub b : ℕ
  pub c : ℕ
  pub d : ℕ
  pub a_octal : a ≤ 7
  pub b_octal : b ≤ 7
  pub c_octal : c ≤ 7
  pub d_octal : d ≤ 7
  pub sent : number ≡ 1000 * a + 100 * b + 10 * c + d

-- a Mode A code has 12 bits, three to a digit: the number that is sent for it, and the code that such a number is
unfoldable pub sent_for : ℕ → ℕ
sent_for bits = 1000 * (bits / 512) + 100 * (bits / 64 % 8) + 10 * (bits / 8 % 8) + bits % 8

unfoldable pub mode_a : ℕ → ℕ
mode_a number = 512 * (number / 1000) + 64 * (number / 100 % 10) + 8 * (number / 10 % 10) + number % 10

-- how many of the numbers below a bound pass a test
unfoldable pub count_below : ℕ → (ℕ → Bool) → ℕ
count_below zero test = 0
count_below (suc n) test = cond (test n) 1 0 + count_below n test

pub record SquawkLaws : Type 0 where
  -- of every number, so of all 65,536 that a field can hold
  pub four_octal_digits : (number : ℕ) → (is_squawk number ≡ true) ↔ FourOctalDigits number
  -- which code a number is: the same digits, in octal
  pub same_digits : (a b c d : ℕ) → a ≤ 7 → b ≤ 7 → c ≤ 7 → d ≤ 7
      → mode_a (1000 * a + 100 * b + 10 * c + d) ≡ 512 * a + 64 * b + 8 * c + d
  -- numbers and codes are one to one
  pub sent_is_squawk : (bits : ℕ) → bits < 4096 → is_squawk (sent_for bits) ≡ true
  pub code_returns : (bits : ℕ) → bits < 4096 → mode_a (sent_for bits) ≡ bits
  pub number_returns : (number : ℕ) → is_squawk number ≡ true → (mode_a number < 4096) × (sent_for (mode_a number) ≡ number)
  -- of the 65,536 numbers 4096 are codes
  pub codes : count_below 65536 is_squawk ≡ 4096
