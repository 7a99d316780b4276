-- Laws of `bit_xor` that `lib.Bits` lacks: it is associative, two equal terms cancel, and it goes through doubling.
-- Assumes nothing.
use mathlib.Core.Path.{◌≡◌, refl, sym, ap, ap₂, ◌∙◌}
use Prim.Native.Nat.{ℕ, zero, suc, ◌+◌, ◌*◌, ◌/◌, ◌%◌, ◌<◌}
use native.Mathlib.Omega.{arith}
use native.Mathlib.Nat.{mod-lt, zero-lt-suc}
use lib.Arith.{bin_ind, digits_div, digits_mod}
use lib.Bits.{bit_xor, differ, xor_step, xor_comm, xor_self, xor_zero_l, xor_zero_r, xor_block}

-- a digit is 0 or 1
pub digit_cases {ℓ} : (P : ℕ → Type ℓ) → P 0 → P 1 → (n : ℕ) → n < 2 → P n
digit_cases P p q zero h = p
digit_cases P p q (suc zero) h = q
digit_cases P p q (suc (suc n)) h = absurd (omega arith)

differ_lt : (x y : ℕ) → x < 2 → y < 2 → differ x y < 2
differ_lt x y hx hy =
    digit_cases (λ (n : ℕ). differ n y < 2) hy
    (digit_cases (λ (m : ℕ). differ 1 m < 2) (omega arith) (omega arith) y hy) x hx

differ_assoc : (x y z : ℕ) → x < 2 → y < 2 → z < 2 → differ (differ x y) z ≡ differ x (differ y z)
differ_assoc x y z hx hy hz =
    digit_cases (λ (n : ℕ). differ (differ n y) z ≡ differ n (differ y z)) refl
    (digit_cases (λ (m : ℕ). differ (differ 1 m) z ≡ differ 1 (differ m z)) refl
    (digit_cases (λ (k : ℕ). differ (differ 1 1) k ≡ differ 1 (differ 1 k)) refl refl z hz) y hy) x hx

pub below_two : (n : ℕ) → n % 2 < 2
below_two n = mod-lt n (zero-lt-suc 1)

pub half : (a b : ℕ) → bit_xor a b / 2 ≡ bit_xor (a / 2) (b / 2)
half a b = rw (xor_step a b) (digits_div _ (differ_lt _ _ (below_two a) (below_two b)))

pub last : (a b : ℕ) → bit_xor a b % 2 ≡ differ (a % 2) (b % 2)
last a b = rw (xor_step a b) (digits_mod _ (differ_lt _ _ (below_two a) (below_two b)))

pub xor_assoc : (a b c : ℕ) → bit_xor (bit_xor a b) c ≡ bit_xor a (bit_xor b c)
xor_assoc =
    bin_ind (λ (n : ℕ). (b c : ℕ) → bit_xor (bit_xor n b) c ≡ bit_xor n (bit_xor b c)) (λ b c. refl)
    (λ n ih b c.
    xor_step (bit_xor n b) c
    ∙ ap₂ (λ (x y : ℕ). x * 2 + y)
    (ap (λ (x : ℕ). bit_xor x (c / 2)) (half n b) ∙ ih (b / 2) (c / 2) ∙ ap (bit_xor (n / 2)) (sym (half b c)))
    (ap (λ (x : ℕ). differ x (c % 2)) (last n b)
    ∙ differ_assoc _ _ _ (below_two n) (below_two b) (below_two c)
    ∙ ap (differ (n % 2)) (sym (last b c)))
    ∙ sym (xor_step n (bit_xor b c)))

pub xor_cancel : (a b : ℕ) → bit_xor (bit_xor a b) b ≡ a
xor_cancel a b = xor_assoc a b b ∙ ap (bit_xor a) (xor_self b) ∙ xor_zero_r a

-- two numbers whose sum is 0 are equal
pub xor_apart : (a b : ℕ) → bit_xor a b ≡ 0 → a ≡ b
xor_apart a b e = sym (xor_cancel a b) ∙ ap (λ (x : ℕ). bit_xor x b) e ∙ xor_zero_l b

-- the middle two of four terms change places
pub xor_swap : (a b c d : ℕ) → bit_xor (bit_xor a b) (bit_xor c d) ≡ bit_xor (bit_xor a c) (bit_xor b d)
xor_swap a b c d =
    xor_assoc a b (bit_xor c d)
    ∙ ap (bit_xor a) (sym (xor_assoc b c d) ∙ ap (λ (x : ℕ). bit_xor x d) (xor_comm b c) ∙ xor_assoc c b d)
    ∙ sym (xor_assoc a c (bit_xor b d))

pub xor_double : (a b x y : ℕ) → x < 2 → y < 2 → bit_xor (a * 2 + x) (b * 2 + y) ≡ bit_xor a b * 2 + bit_xor x y
xor_double a b x y hx hy = xor_block 1 a b x y hx hy
