-- A numeral by its last digit, and how long it is. Assumes nothing.
use mathlib.Core.Path.{◌≡◌, refl, ap, ◌∙◌}
use mathlib.Core.Bool.{Bool, true, false, not, ◌&&◌}
use mathlib.Core.List.{List, [], ◌∷◌, ◌++◌, append_assoc}
use Prim.Native.Nat.{ℕ, zero, suc, ◌+◌, ◌-◌, ◌/◌, ◌%◌, ◌<◌, ◌≤◌}
use native.Mathlib.Omega.{arith}
use lib.Dec.{ltb}
use lib.ListN.{length, length-append}
use borrow.Author.Tests.{ltb-true, lt-ltb}
use Rattle.text_output.specs.Text.{codes, hex_digit, numeral, fraction}

module _ (padded : Bool) (base : ℕ) where
  pub no_digit : (most n : ℕ) → most ≡ 0 → numeral padded base most n ≡ []
  unfolding numeral
  no_digit zero n e = refl
  no_digit (suc most) n e = absurd (omega arith)

  pub one_digit : (most n : ℕ) → (most ≡ 0 → ⊥) → (not padded && ltb n base) ≡ true → numeral padded base most n ≡ hex_digit n ∷ []
  unfolding numeral
  one_digit zero n h e = absurd (h refl)
  one_digit (suc most) n h e = rw e

  pub more_digits : (most n : ℕ) → (most ≡ 0 → ⊥) → (not padded && ltb n base) ≡ false
      → numeral padded base most n ≡ numeral padded base (most - 1) (n / base) ++ (hex_digit (n % base) ∷ [])
  unfolding numeral
  more_digits zero n h e = absurd (h refl)
  more_digits (suc most) n h e =
      let same : suc most - 1 ≡ most = omega arith in
      rw (e, same)

  -- ---- two digits a step

  pub last_digit : (most n : ℕ) → most ≡ 1 → (not padded && ltb n base) ≡ false → numeral padded base most n ≡ hex_digit (n % base) ∷ []
  last_digit most n one e =
      let less : most - 1 ≡ 0 = omega arith in
      more_digits most n (λ z. omega arith) e
      ∙ ap (λ (xs : List ℕ). xs ++ (hex_digit (n % base) ∷ [])) (no_digit (most - 1) (n / base) less)

  pub two_digits : (most n : ℕ) → (most ≡ 0 → ⊥) → (most ≡ 1 → ⊥) → (not padded && ltb n base) ≡ false → (not padded && ltb (n / base) base) ≡ true
      → numeral padded base most n ≡ hex_digit (n / base) ∷ hex_digit (n % base) ∷ []
  two_digits most n some more e f =
      more_digits most n some e
      ∙ ap (λ (xs : List ℕ). xs ++ (hex_digit (n % base) ∷ [])) (one_digit (most - 1) (n / base) (λ z. more (omega (arith, some))) f)

  pub pair_digits : (most n : ℕ) → (most ≡ 0 → ⊥) → (most ≡ 1 → ⊥) → (not padded && ltb n base) ≡ false → (not padded && ltb (n / base) base) ≡ false
      → numeral padded base most n ≡ numeral padded base (most - 2) (n / base / base) ++ (hex_digit (n / base % base) ∷ hex_digit (n % base) ∷ [])
  pair_digits most n some more e f =
      let less : most - 1 - 1 ≡ most - 2 = omega arith in
      more_digits most n some e
      ∙ ap (λ (xs : List ℕ). xs ++ (hex_digit (n % base) ∷ [])) (more_digits (most - 1) (n / base) (λ z. more (omega (arith, some))) f)
      ∙ append_assoc (numeral padded base (most - 1 - 1) (n / base / base)) (hex_digit (n / base % base) ∷ []) (hex_digit (n % base) ∷ [])
      ∙ ap (λ (k : ℕ). numeral padded base k (n / base / base) ++ (hex_digit (n / base % base) ∷ hex_digit (n % base) ∷ [])) less

  pub numeral_most : (most n : ℕ) → length (numeral padded base most n) ≤ most
  unfolding numeral
  numeral_most zero n = omega arith
  numeral_most (suc most) n = go (numeral_most most (n / base)) (not padded && ltb n base) refl
    where
      go : length (numeral padded base most (n / base)) ≤ most → (b : Bool) → (not padded && ltb n base) ≡ b
          → length (numeral padded base (suc most) n) ≤ suc most
      go fewer true e = rw e (omega arith)
      go fewer false e = rw (e, length-append) (omega (arith, fewer))

pub last_small : (padded : Bool) (n base : ℕ) → (not padded && ltb n base) ≡ true → n < base
last_small true n base e = let z : ◌≡◌ {A = ℕ} 0 1 = cc in absurd (omega arith)
last_small false n base e = ltb-true n base e

-- ---- behind the point

pub no_places : (places n : ℕ) → places ≡ 0 → fraction places n ≡ []
no_places zero n e = refl
no_places (suc places) n e = absurd (omega arith)

pub some_places : (places n : ℕ) → (places ≡ 0 → ⊥) → fraction places n ≡ codes "." ++ numeral true 10 places n
some_places zero n h = absurd (h refl)
some_places (suc places) n h = refl

-- a decimal digit by arithmetic
pub decimal_digit : (d : ℕ) → d < 10 → d + 48 ≡ hex_digit d
unfolding hex_digit
decimal_digit d h = rw (lt-ltb d 10 h) (omega arith)

-- the point, and seven digits
pub seven_places : (n : ℕ) → fraction 7 n
    ≡ 46 ∷ hex_digit (n / 10 / 10 / 10 / 10 / 10 / 10 % 10) ∷ hex_digit (n / 10 / 10 / 10 / 10 / 10 % 10) ∷ hex_digit (n / 10 / 10 / 10 / 10 % 10)
    ∷ hex_digit (n / 10 / 10 / 10 % 10) ∷ hex_digit (n / 10 / 10 % 10) ∷ hex_digit (n / 10 % 10) ∷ hex_digit (n % 10) ∷ []
unfolding numeral
seven_places n = refl
