-- Whether a digit is at most 7, by the number's fraction from that digit on, in parts of 2^32. Assumes nothing.
use mathlib.Core.Path.{◌≡◌, refl, ◌∙◌, sym}
use mathlib.Core.Bool.{Bool, true, false, ◌&&◌}
use Prim.Native.Nat.{ℕ, ◌+◌, ◌*◌, ◌/◌, ◌%◌, ◌≤◌, ◌<◌}
use native.Mathlib.Omega.{arith}
use lib.Dec.{leb, ltb}
use borrow.Author.Tests.{ltb-true, ltb-false, leb-true, lt-leb, le-leb}
use Rattle.field_codes.specs.Codes.{is_squawk}

-- the test that runs: of a fraction, by the inverse of a place, which is rounded up; and of a number
abbrev below : ℕ → ℕ → Bool
below n inverse = ltb (n * inverse % 4294967296) 3435973837

abbrev tested : ℕ → Bool
tested n = leb n 7777 && below n 4294968 && below n 42949673 && below n 429496730

-- two tests of numbers that hold together are equal
tests_agree : (a b c d : ℕ) → (a < b → c ≤ d) → (b ≤ a → d < c) → ltb a b ≡ leb c d
tests_agree a b c d held failed = by (ltb a b) refl
  where
    by : (t : Bool) → ltb a b ≡ t → ltb a b ≡ leb c d
    by true e = e ∙ sym (le-leb c d (held (ltb-true a b e)))
    by false e = e ∙ sym (lt-leb c d (failed (ltb-false a b e)))

last_digit : (m q d : ℕ) → m ≡ q * 10 + d → d < 10 → m % 10 ≡ d
last_digit m q d e l = omega arith

module _ (n : ℕ) (h : n ≤ 7777) where
  -- a product is past whole parts of 2^32 by the fraction, and a little for the rounding
  hundreds : below n 4294968 ≡ leb (n / 100 % 10) 7
  hundreds =
      let f : n * 4294968 % 4294967296 ≡ n / 1000 * 704 + n % 1000 * 4294968 = omega arith in
      let e : n / 100 ≡ n / 1000 * 10 + n % 1000 / 100 = omega arith in
      let d = last_digit (n / 100) (n / 1000) (n % 1000 / 100) e (omega arith) in
      tests_agree (n * 4294968 % 4294967296) 3435973837 (n / 100 % 10) 7
      (λ l. let r : n % 1000 < 800 = omega (arith, f, l) in omega (arith, d, r))
      (λ l. let r : 800 ≤ n % 1000 = omega (arith, f, l) in omega (arith, d, r))

  tens : below n 42949673 ≡ leb (n / 10 % 10) 7
  tens =
      let f : n * 42949673 % 4294967296 ≡ n / 100 * 4 + n % 100 * 42949673 = omega arith in
      let e : n / 10 ≡ n / 100 * 10 + n % 100 / 10 = omega arith in
      let d = last_digit (n / 10) (n / 100) (n % 100 / 10) e (omega arith) in
      tests_agree (n * 42949673 % 4294967296) 3435973837 (n / 10 % 10) 7
      (λ l. let r : n % 100 < 80 = omega (arith, f, l) in omega (arith, d, r))
      (λ l. let r : 80 ≤ n % 100 = omega (arith, f, l) in omega (arith, d, r))

  units : below n 429496730 ≡ leb (n % 10) 7
  units =
      let f : n * 429496730 % 4294967296 ≡ n / 10 * 4 + n % 10 * 429496730 = omega arith in
      tests_agree (n * 429496730 % 4294967296) 3435973837 (n % 10) 7 (λ l. omega (arith, f, l)) (λ l. omega (arith, f, l))

pub runs : (n : ℕ) → tested n ≡ is_squawk n
unfolding is_squawk
runs n = by (leb n 7777) refl
  where
    by : (most : Bool) → leb n 7777 ≡ most → tested n ≡ is_squawk n
    by true e =
        let h = leb-true n 7777 e in
        rw (e, le-leb (n / 1000 % 10) 7 (omega (arith, h)), hundreds n h, tens n h, units n h)
    by false e = rw e
