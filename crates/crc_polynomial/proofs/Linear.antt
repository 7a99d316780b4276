-- Linear functions of 16 bits: two that are computed to be equal at each power of x are equal everywhere. Assumes nothing.
use mathlib.Core.Path.{◌≡◌, sym, ap, ap₂, ◌∙◌}
use mathlib.Core.List.{List, [], ◌∷◌}
use Prim.Native.Nat.{ℕ, zero, suc, ◌+◌, ◌*◌, ◌/◌, ◌%◌, ◌^◌, ◌<◌}
use native.Mathlib.Omega.{arith}
use native.Mathlib.Nat.{add-zero, zero-add, add-suc, suc-add, zero-mul, one-mul, mod-lt, div-add-mod'}
use lib.ListN.{get_or}
use lib.Bits.{bit_xor, xor_self, xor_shifted, xor_block}
use lib.Pow.{pow_pos, shr_lt}
use Rattle.crc_polynomial.specs.Polynomial.{degree16}
use Rattle.crc_polynomial.proofs.Xor.{digit_cases, xor_swap}

-- f at n numbers, from k on
abbrev pub up_from : {A : Type 0} → (ℕ → A) → ℕ → ℕ → List A
up_from f zero k = []
up_from f (suc n) k = f k ∷ up_from f n (suc k)

pub up_from_at : {A : Type 0} (f : ℕ → A) (n k i : ℕ) (d : A) → i < n → get_or (up_from f n k) i d ≡ f (k + i)
up_from_at f zero k i d h = absurd (omega arith)
up_from_at f (suc n) k zero d h = ap f (sym (add-zero k))
up_from_at f (suc n) k (suc i) d h = up_from_at f n (suc k) i d (omega arith) ∙ ap f (suc-add k i ∙ sym (add-suc k i))

-- two functions that are computed to be equal at the numbers below n
pub everywhere : {A : Type 0} (f g : ℕ → A) (n : ℕ) → up_from f n 0 ≡ up_from g n 0 → (k : ℕ) → k < n → f k ≡ g k
everywhere {A} f g n e k h =
    sym (up_from_at f n 0 k (f 0) h ∙ ap f (zero-add k))
    ∙ ap (λ (xs : List A). get_or xs k (f 0)) e
    ∙ up_from_at g n 0 k (f 0) h
    ∙ ap g (zero-add k)

abbrev pub Linear : (ℕ → ℕ) → Type 0
Linear f = (a b : ℕ) → f (bit_xor a b) ≡ bit_xor (f a) (f b)

pub both : (f g : ℕ → ℕ) → Linear f → Linear g → Linear (λ n. bit_xor (f n) (g n))
both f g hf hg a b = ap₂ bit_xor (hf a b) (hg a b) ∙ xor_swap (f a) (f b) (g a) (g b)

pub times : (k : ℕ) → Linear (λ n. n * 2 ^ k)
times k a b =
    sym (add-zero (bit_xor a b * 2 ^ k))
    ∙ sym (xor_block k a b 0 0 (pow_pos k) (pow_pos k))
    ∙ ap₂ bit_xor (add-zero (a * 2 ^ k)) (add-zero (b * 2 ^ k))

-- a number of 16 bits is the sum of its two octets, each at its place
pub two_octets : (r : ℕ) → r ≡ bit_xor (r / 256 * 256) (r % 256)
two_octets r = sym (div-add-mod' r 256) ∙ sym (xor_shifted (r / 256) 8 (r % 256) (omega arith))

-- linear on polynomials of degree under 16
abbrev pub Linear16 : (ℕ → ℕ) → Type 0
Linear16 f = (a b : ℕ) → a < degree16 → b < degree16 → f (bit_xor a b) ≡ bit_xor (f a) (f b)

module _ (f g : ℕ → ℕ) (lf : Linear16 f) (lg : Linear16 g) where
  at_zero : f 0 ≡ g 0
  at_zero = lf 0 0 (omega arith) (omega arith) ∙ xor_self (f 0) ∙ sym (lg 0 0 (omega arith) (omega arith) ∙ xor_self (g 0))

  -- at a sum
  at_sum : {a b r : ℕ} → r ≡ bit_xor a b → a < degree16 → b < degree16 → f a ≡ g a → f b ≡ g b → f r ≡ g r
  at_sum {a} {b} e ha hb p q = ap f e ∙ lf a b ha hb ∙ ap₂ bit_xor p q ∙ sym (lg a b ha hb) ∙ ap g (sym e)

  parts : {a b r : ℕ} → a + b ≡ r → r < degree16 → (a < degree16) × (b < degree16)
  parts e h = (omega arith, omega arith)

  -- equal at the w lowest powers of x, and so at every polynomial of degree under w
  pub agree : (w : ℕ) → up_from (λ i. f (2 ^ i)) w 0 ≡ up_from (λ i. g (2 ^ i)) w 0
      → (r : ℕ) → r < 2 ^ w → r < degree16 → f r ≡ g r
  agree w e = go w (everywhere (λ i. f (2 ^ i)) (λ i. g (2 ^ i)) w e)
    where
      go : (w : ℕ) → ((i : ℕ) → i < w → f (2 ^ i) ≡ g (2 ^ i)) → (r : ℕ) → r < 2 ^ w → r < degree16 → f r ≡ g r
      go zero e r h l = let z : r ≡ 0 = omega arith in rw z at_zero
      go (suc w) e r h l =
          let low = mod-lt r (pow_pos w) in
          let more : suc w ≡ 1 + w = omega arith in
          let few = parts (div-add-mod' r (2 ^ w)) l in
          at_sum (sym (div-add-mod' r (2 ^ w)) ∙ sym (xor_shifted (r / 2 ^ w) w (r % 2 ^ w) low)) few.0 few.1
          (digit_cases (λ (d : ℕ). f (d * 2 ^ w) ≡ g (d * 2 ^ w)) (rw zero-mul at_zero)
          (rw one-mul (e w (omega arith))) (r / 2 ^ w) (shr_lt 1 w (rw more at h)))
          (go w (λ i k. e i (omega arith)) (r % 2 ^ w) low few.1)
