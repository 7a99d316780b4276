-- The laws of the squawk: by its digits, and counted a digit at a time. Assumes nothing.
use mathlib.Core.Path.{◌≡◌, refl, ◌∙◌, ap, sym, subst}
use mathlib.Core.Bool.{Bool, true, false, ◌&&◌, cond}
use Prim.Native.Nat.{ℕ, zero, suc, ◌+◌, ◌*◌, ◌/◌, ◌%◌, ◌≤◌, ◌<◌}
use native.Mathlib.Omega.{arith}
use native.Mathlib.Numerals.{unary_clauses}
use lib.Dec.{T, leb, leb→le}
use mir.Facts.{and_yes}
use borrow.Author.Tests.{le-leb, lt-leb}
use Rattle.field_codes.specs.Codes.{is_squawk}
use Rattle.field_codes.specs.Squawks.{FourOctalDigits, sent_for, mode_a, count_below, SquawkLaws}

-- ---- digits

-- a number is made of its decimal digits, and a number of 12 bits of its octal ones
decimal : (n : ℕ) → n ≡ 1000 * (n / 1000) + 100 * (n / 100 % 10) + 10 * (n / 10 % 10) + n % 10
decimal n =
    let tens : n / 10 / 10 ≡ n / 100 = omega arith in
    let hundreds : n / 100 / 10 ≡ n / 1000 = omega arith in
    omega (arith, tens, hundreds)

octal : (n : ℕ) → n ≡ 512 * (n / 512) + 64 * (n / 64 % 8) + 8 * (n / 8 % 8) + n % 8
octal n =
    let eights : n / 8 / 8 ≡ n / 64 = omega arith in
    let of-eight : n / 64 / 8 ≡ n / 512 = omega arith in
    omega (arith, eights, of-eight)

record Octal (n : ℕ) : Type 0 where
  pub most : n ≤ 7777
  pub hundreds : n / 100 % 10 ≤ 7
  pub tens : n / 10 % 10 ≤ 7
  pub units : n % 10 ≤ 7

is_squawk_lem : (n : ℕ) → Octal n → is_squawk n ≡ true
unfolding is_squawk
is_squawk_lem n o =
    rw (le-leb n 7777 o.most, le-leb (n / 1000 % 10) 7 (omega (arith, o.most)), le-leb (n / 100 % 10) 7 o.hundreds, le-leb (n / 10 % 10) 7 o.tens, le-leb (n % 10) 7 o.units)

octal_of : (n : ℕ) → is_squawk n ≡ true → Octal n
unfolding is_squawk
octal_of n e =
    let (to-tens, units) = and_yes (leb n 7777 && leb (n / 1000 % 10) 7 && leb (n / 100 % 10) 7 && leb (n / 10 % 10) 7) (leb (n % 10) 7) (subst T (sym e) tt) in
    let (to-hundreds, tens) = and_yes (leb n 7777 && leb (n / 1000 % 10) 7 && leb (n / 100 % 10) 7) (leb (n / 10 % 10) 7) to-tens in
    let (to-thousands, hundreds) = and_yes (leb n 7777 && leb (n / 1000 % 10) 7) (leb (n / 100 % 10) 7) to-hundreds in
    let (most, _) = and_yes (leb n 7777) (leb (n / 1000 % 10) 7) to-thousands in
    record {
      most = leb→le n 7777 most;
      hundreds = leb→le (n / 100 % 10) 7 hundreds;
      tens = leb→le (n / 10 % 10) 7 tens;
      units = leb→le (n % 10) 7 units;
    }

-- the digits of what is made of digits
module _ (a b c d : ℕ) (ha : a ≤ 7) (hb : b ≤ 7) (hc : c ≤ 7) (hd : d ≤ 7) where
  sent_digits : (mode_a (1000 * a + 100 * b + 10 * c + d) ≡ 512 * a + 64 * b + 8 * c + d) × Octal (1000 * a + 100 * b + 10 * c + d)
  unfolding mode_a
  sent_digits =
      let thousands : (1000 * a + 100 * b + 10 * c + d) / 1000 ≡ a = omega arith in
      let hundreds : (1000 * a + 100 * b + 10 * c + d) / 100 % 10 ≡ b = omega arith in
      let tens : (1000 * a + 100 * b + 10 * c + d) / 10 % 10 ≡ c = omega arith in
      let units : (1000 * a + 100 * b + 10 * c + d) % 10 ≡ d = omega arith in (
        rw (thousands, hundreds, tens, units),
        record { most = omega arith; hundreds = rw hundreds hb; tens = rw tens hc; units = rw units hd },
      )

  octal_digits_lem : sent_for (512 * a + 64 * b + 8 * c + d) ≡ 1000 * a + 100 * b + 10 * c + d
  unfolding sent_for
  octal_digits_lem =
      let thousands : (512 * a + 64 * b + 8 * c + d) / 512 ≡ a = omega arith in
      let hundreds : (512 * a + 64 * b + 8 * c + d) / 64 % 8 ≡ b = omega arith in
      let tens : (512 * a + 64 * b + 8 * c + d) / 8 % 8 ≡ c = omega arith in
      let units : (512 * a + 64 * b + 8 * c + d) % 8 ≡ d = omega arith in
      rw (thousands, hundreds, tens, units)

digits_of : (n : ℕ) → Octal n → FourOctalDigits n
digits_of n o = record {
  a = n / 1000;
  b = n / 100 % 10;
  c = n / 10 % 10;
  d = n % 10;
  a_octal = omega (arith, o.most);
  b_octal = o.hundreds;
  c_octal = o.tens;
  d_octal = o.units;
  sent = decimal n;
}

of_digits : (n : ℕ) → FourOctalDigits n → is_squawk n ≡ true
of_digits n f =
    ap is_squawk f.sent
    ∙ is_squawk_lem (1000 * f.a + 100 * f.b + 10 * f.c + f.d)
    (sent_digits f.a f.b f.c f.d f.a_octal f.b_octal f.c_octal f.d_octal).1

-- ---- 12 bits

module _ (n : ℕ) (l : n < 4096) where
  twelve_bits : (mode_a (sent_for n) ≡ n) × Octal (sent_for n)
  unfolding sent_for
  twelve_bits =
      let (bits, digits) = sent_digits (n / 512) (n / 64 % 8) (n / 8 % 8) (n % 8) (omega arith) (omega arith) (omega arith) (omega arith) in
      (bits ∙ sym (octal n), digits)

sent_back : (n : ℕ) → Octal n → (mode_a n < 4096) × (sent_for (mode_a n) ≡ n)
unfolding mode_a
sent_back n o =
    let thousands : n / 1000 ≤ 7 = omega (arith, o.most) in (
      omega (arith, o.hundreds, o.tens, o.units),
      octal_digits_lem (n / 1000) (n / 100 % 10) (n / 10 % 10) (n % 10) thousands o.hundreds o.tens o.units ∙ sym (decimal n),
    )

-- ---- how many

count_from : (f : ℕ → Bool) (a b : ℕ) → count_below (a + b) f ≡ count_below b (λ r. f (a + r)) + count_below a f
unfolding count_below
count_from f a zero = simp unary_clauses (omega arith)
count_from f a (suc b) = let e = count_from f a b in simp unary_clauses (omega (arith, e))

count_same : (f g : ℕ → Bool) (n : ℕ) → ((r : ℕ) → r < n → f r ≡ g r) → count_below n f ≡ count_below n g
unfolding count_below
count_same f g zero same = refl
count_same f g (suc n) same = rw (same n (omega arith), count_same f g n (λ r l. same r (omega arith)))

count_none : (n : ℕ) → count_below n (λ r. false) ≡ 0
unfolding count_below
count_none zero = refl
count_none (suc n) = let e = count_none n in omega (arith, e)

-- a digit more: of every ten numbers with the same digits before the last, eight pass where those pass
one_digit_more : (f : ℕ → Bool) (n : ℕ) → count_below (n * 10) (λ r. f (r / 10) && leb (r % 10) 7) ≡ count_below n f * 8
unfolding count_below
one_digit_more f zero = refl
one_digit_more f (suc n) =
    let e = one_digit_more f n in
    let next : suc n * 10 ≡ n * 10 + 10 = omega arith in
    ap (λ (k : ℕ). count_below k digits) next
    ∙ count_from digits (n * 10) 10
    ∙ ap (λ (k : ℕ). k + count_below (n * 10) digits) (count_same (λ r. digits (n * 10 + r)) (λ r. f n && leb r 7) 10 same ∙ eight (f n))
    ∙ omega (arith, e)
  where
    digits : ℕ → Bool
    digits r = f (r / 10) && leb (r % 10) 7

    same : (r : ℕ) → r < 10 → digits (n * 10 + r) ≡ (f n && leb r 7)
    same r l =
        let before : (n * 10 + r) / 10 ≡ n = omega arith in
        let last : (n * 10 + r) % 10 ≡ r = omega arith in
        rw (before, last)

    eight : (t : Bool) → count_below 10 (λ r. t && leb r 7) ≡ cond t 1 0 * 8
    eight true = refl
    eight false = refl

-- the last k digits are octal
octal_digits : ℕ → ℕ → Bool
octal_digits zero n = true
octal_digits (suc k) n = octal_digits k (n / 10) && leb (n % 10) 7

-- eight times as many for each of four digits
count_four : count_below 10000 (octal_digits 4) ≡ 4096
unfolding octal_digits count_below
count_four =
    one_digit_more (octal_digits 3) 1000
    ∙ ap (λ (k : ℕ). k * 8) (one_digit_more (octal_digits 2) 100
    ∙ ap (λ (k : ℕ). k * 8) (one_digit_more (octal_digits 1) 10
    ∙ ap (λ (k : ℕ). k * 8) (one_digit_more (octal_digits 0) 1)))

-- below 10000 the four digits decide: octal ones make 7777 at most
most : (n a b c d : ℕ) → a ≤ 7 → b ≤ 7 → c ≤ 7 → d ≤ 7 → n ≡ 1000 * a + 100 * b + 10 * c + d → n ≤ 7777
most n a b c d ha hb hc hd e = omega arith

module _ (n : ℕ) (l : n < 10000) where
  hundreds_of : n / 10 / 10 ≡ n / 100
  hundreds_of = omega arith

  thousands_of : n / 10 / 10 / 10 ≡ n / 1000
  thousands_of = omega arith

  at_most : octal_digits 4 n ≡ true → leb n 7777 ≡ true
  unfolding octal_digits
  at_most e =
      let (third, units) = and_yes (octal_digits 3 (n / 10)) (leb (n % 10) 7) (subst T (sym e) tt) in
      let (second, tens) = and_yes (octal_digits 2 (n / 10 / 10)) (leb (n / 10 % 10) 7) third in
      let (first, hundreds) = and_yes (octal_digits 1 (n / 10 / 10 / 10)) (leb (n / 10 / 10 % 10) 7) second in
      let last : n / 1000 % 10 ≤ 7 = rw thousands_of at (leb→le (n / 10 / 10 / 10 % 10) 7 first) in
      let a : n / 1000 ≤ 7 = omega arith in
      let b : n / 100 % 10 ≤ 7 = rw hundreds_of at (leb→le (n / 10 / 10 % 10) 7 hundreds) in
      le-leb n 7777 (most n (n / 1000) (n / 100 % 10) (n / 10 % 10) (n % 10) a b (leb→le (n / 10 % 10) 7 tens) (leb→le (n % 10) 7 units) (decimal n))

  is_four : is_squawk n ≡ octal_digits 4 n
  unfolding is_squawk octal_digits
  is_four = by (leb n 7777) refl (octal_digits 4 n) refl
    where
      by : (m : Bool) → leb n 7777 ≡ m → (t : Bool) → octal_digits 4 n ≡ t → is_squawk n ≡ octal_digits 4 n
      by true e t u = rw (e, thousands_of, hundreds_of)
      by false e true u = rw (e, u) (sym e ∙ at_most u)
      by false e false u = rw (e, u)

past : (r : ℕ) → is_squawk (10000 + r) ≡ false
unfolding is_squawk
past r = rw (lt-leb (10000 + r) 7777 (omega arith))

counted : count_below 65536 is_squawk ≡ 4096
counted =
    count_from is_squawk 10000 55536
    ∙ ap (λ (k : ℕ). k + count_below 10000 is_squawk) (count_same (λ r. is_squawk (10000 + r)) (λ r. false) 55536 (λ r l. past r) ∙ count_none 55536)
    ∙ ap (λ (k : ℕ). 0 + k) (count_same is_squawk (octal_digits 4) 10000 is_four ∙ count_four)

pub laws : SquawkLaws
laws = record {
  four_octal_digits = λ n. ((λ e. digits_of n (octal_of n e)), of_digits n);
  same_digits = λ a b c d ha hb hc hd. (sent_digits a b c d ha hb hc hd).0;
  sent_is_squawk = λ n l. is_squawk_lem (sent_for n) (twelve_bits n l).1;
  code_returns = λ n l. (twelve_bits n l).0;
  number_returns = λ n e. sent_back n (octal_of n e);
  codes = counted;
}
