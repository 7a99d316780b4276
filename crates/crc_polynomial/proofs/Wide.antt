-- Linear functions of any width, as shifts make them, and of a pair of numbers: two that are computed to be equal at each power
-- of x are equal everywhere. Assumes nothing.
use mathlib.Core.Path.{◌≡◌, refl, sym, ap, ap₂, ◌∙◌}
use Prim.Native.Nat.{ℕ, zero, suc, ◌+◌, ◌*◌, ◌/◌, ◌%◌, ◌^◌, ◌<◌}
use native.Mathlib.Omega.{arith}
use native.Mathlib.Nat.{zero-mul, one-mul, mod-lt, div-add-mod'}
use lib.Bits.{bit_xor, xor_self, xor_shr, xor_mod, xor_shifted, xor_zero_r, xor_zero_l}
use lib.Pow.{pow_pos, shr_lt}
use Rattle.crc_polynomial.proofs.Xor.{digit_cases, xor_swap}
use Rattle.crc_polynomial.proofs.Linear.{up_from, everywhere, Linear, times}

-- ---- shifts are linear
pub itself : Linear (λ n. n)
itself a b = refl

pub behind : (f g : ℕ → ℕ) → Linear f → Linear g → Linear (λ n. g (f n))
behind f g lf lg a b = ap g (lf a b) ∙ lg (f a) (f b)

pub low : (k : ℕ) → Linear (λ n. n % 2 ^ k)
low k a b = xor_mod a b k

pub down : (k : ℕ) → Linear (λ n. n / 2 ^ k)
down k a b = xor_shr a b k

-- `<<` of a number of w bits
pub up : (w k : ℕ) → Linear (λ n. n * 2 ^ k % 2 ^ w)
up w k = behind (λ n. n * 2 ^ k) (λ n. n % 2 ^ w) (times k) (low w)

-- of a pair of numbers
abbrev pub Linear₂ : (ℕ → ℕ → ℕ) → Type 0
Linear₂ f = (a b x y : ℕ) → f (bit_xor a b) (bit_xor x y) ≡ bit_xor (f a x) (f b y)

pub behind₂ : (f : ℕ → ℕ → ℕ) (g : ℕ → ℕ) → Linear₂ f → Linear g → Linear₂ (λ m n. g (f m n))
behind₂ f g lf lg a b x y = ap g (lf a b x y) ∙ lg (f a x) (f b y)

pub both₂ : (f g : ℕ → ℕ → ℕ) → Linear₂ f → Linear₂ g → Linear₂ (λ m n. bit_xor (f m n) (g m n))
both₂ f g lf lg a b x y = ap₂ bit_xor (lf a b x y) (lg a b x y) ∙ xor_swap (f a x) (f b y) (g a x) (g b y)

-- ---- a number computed before it is used, and so only once
abbrev pub forced : (ℕ → ℕ) → ℕ → ℕ
forced f zero = f zero
forced f (suc n) = f (suc n)

pub forced_is : (f : ℕ → ℕ) (n : ℕ) → forced f n ≡ f n
forced_is f zero = refl
forced_is f (suc n) = refl

pub forced_at : (f : ℕ → ℕ) {m n : ℕ} → m ≡ n → forced f m ≡ f n
forced_at f {m} p = forced_is f m ∙ ap f p

-- ---- equal at each power of x
module _ (f g : ℕ → ℕ) (lf : Linear f) (lg : Linear g) where
  at_zero : f 0 ≡ g 0
  at_zero = lf 0 0 ∙ xor_self (f 0) ∙ sym (lg 0 0 ∙ xor_self (g 0))

  at_sum : {a b r : ℕ} → r ≡ bit_xor a b → f a ≡ g a → f b ≡ g b → f r ≡ g r
  at_sum {a} {b} e p q = ap f e ∙ lf a b ∙ ap₂ bit_xor p q ∙ sym (lg a b) ∙ ap g (sym e)

  -- at the w lowest, and so at every polynomial of degree under w
  pub same : (w : ℕ) → ((i : ℕ) → i < w → f (2 ^ i) ≡ g (2 ^ i)) → (r : ℕ) → r < 2 ^ w → f r ≡ g r
  same zero e r h = let z : r ≡ 0 = omega arith in rw z at_zero
  same (suc w) e r h =
      let rest = mod-lt r (pow_pos w) in
      let more : suc w ≡ 1 + w = omega arith in
      at_sum (sym (div-add-mod' r (2 ^ w)) ∙ sym (xor_shifted (r / 2 ^ w) w (r % 2 ^ w) rest))
      (digit_cases (λ (d : ℕ). f (d * 2 ^ w) ≡ g (d * 2 ^ w)) (rw zero-mul at_zero)
      (rw one-mul (e w (omega arith))) (r / 2 ^ w) (shr_lt 1 w (rw more at h)))
      (same w (λ i k. e i (omega arith)) (r % 2 ^ w) rest)

-- Two functions of a pair: each is given in a second form, which is the one that is computed.
module _ (f g : ℕ → ℕ → ℕ) (lf : Linear₂ f) (lg : Linear₂ g)
    (f' g' : ℕ → ℕ → ℕ) (fe : (c x : ℕ) → f' c x ≡ f c x) (ge : (c x : ℕ) → g' c x ≡ g c x) where
  pub same₂ : (u w : ℕ) → up_from (λ i. f' (2 ^ i) 0) u 0 ≡ up_from (λ i. g' (2 ^ i) 0) u 0
      → up_from (λ i. f' 0 (2 ^ i)) w 0 ≡ up_from (λ i. g' 0 (2 ^ i)) w 0
      → (c x : ℕ) → c < 2 ^ u → x < 2 ^ w → f c x ≡ g c x
  same₂ u w p q c x hc hx =
      ap₂ f (sym (xor_zero_r c)) (sym (xor_zero_l x))
      ∙ lf c 0 0 x
      ∙ ap₂ bit_xor
      (same (λ n. f n 0) (λ n. g n 0) (λ a b. lf a b 0 0) (λ a b. lg a b 0 0) u
      (λ i h. sym (fe (2 ^ i) 0) ∙ everywhere (λ i. f' (2 ^ i) 0) (λ i. g' (2 ^ i) 0) u p i h ∙ ge (2 ^ i) 0) c hc)
      (same (λ n. f 0 n) (λ n. g 0 n) (λ a b. lf 0 0 a b) (λ a b. lg 0 0 a b) w
      (λ i h. sym (fe 0 (2 ^ i)) ∙ everywhere (λ i. f' 0 (2 ^ i)) (λ i. g' 0 (2 ^ i)) w q i h ∙ ge 0 (2 ^ i)) x hx)
      ∙ sym (lg c 0 0 x)
      ∙ ap₂ g (xor_zero_r c) (xor_zero_l x)
