-- The step of the X.25 check over eight octets, by shifts of 64 bits: it is the step of two octets four times. Both are linear in
-- the running check and the word, so that antt computes them at each power of x alone. Assumes nothing.
use mathlib.Core.Path.{◌≡◌, refl, ap, ap₂, ◌∙◌}
use Prim.Native.Nat.{ℕ, zero, suc, ◌*◌, ◌/◌, ◌%◌, ◌^◌, ◌<◌}
use native.Mathlib.Omega.{arith}
use native.Mathlib.Nat.{mod-lt}
use lib.Bits.{bit_xor, xor_mod, xor_shr}
use Rattle.crc_polynomial.specs.Polynomial.{degree16}
use Rattle.crc_polynomial.proofs.Xor.{xor_swap}
use Rattle.crc_polynomial.proofs.Linear.{up_from, Linear, both}
use Rattle.crc_polynomial.proofs.Wide.{Linear₂, itself, low, down, up, behind, behind₂, forced, forced_is, forced_at, same₂}
use Rattle.crc_x25.proofs.Shifts.{paired, paired_linear, paired_quick, paired_quick_is}

-- ---- the step by shifts
abbrev up64 : ℕ → ℕ → ℕ
up64 k n = n * 2 ^ k % 2 ^ 64

abbrev met : ℕ → ℕ → ℕ
met check word = bit_xor word check

abbrev a : ℕ → ℕ
a n = bit_xor n (up64 32 n)

abbrev b : ℕ → ℕ
b n = bit_xor (bit_xor n (up64 16 n)) (up64 44 n)

abbrev c : ℕ → ℕ
c n = bit_xor (bit_xor (bit_xor n (up64 8 n)) (up64 22 n)) (up64 32 n)

abbrev d : ℕ → ℕ
d n = bit_xor (bit_xor (bit_xor n (up64 4 n)) (up64 11 n)) (up64 16 n)

abbrev e : ℕ → ℕ
e n = bit_xor (bit_xor (n / 2 ^ 48) (n / 2 ^ 53)) (n / 2 ^ 60) % 65536

unfoldable pub eight : ℕ → ℕ → ℕ
eight check word = e (d (c (b (a (met check word)))))

-- added to itself at two or three more places
more : (f : ℕ → ℕ) (k : ℕ) → Linear f → Linear (λ n. bit_xor (f n) (up64 k n))
more f k lf = both f (up64 k) lf (up 64 k)

e_linear : Linear e
e_linear =
    behind (λ n. bit_xor (bit_xor (n / 2 ^ 48) (n / 2 ^ 53)) (n / 2 ^ 60)) (λ n. n % 65536)
    (both (λ n. bit_xor (n / 2 ^ 48) (n / 2 ^ 53)) (λ n. n / 2 ^ 60)
    (both (λ n. n / 2 ^ 48) (λ n. n / 2 ^ 53) (down 48) (down 53)) (down 60))
    (low 16)

eight_linear : Linear₂ eight
unfolding eight
eight_linear =
    behind₂ (λ m n. d (c (b (a (met m n))))) e
    (behind₂ (λ m n. c (b (a (met m n)))) d
    (behind₂ (λ m n. b (a (met m n))) c
    (behind₂ (λ m n. a (met m n)) b
    (behind₂ met a (λ m k x y. xor_swap x y m k) (more (λ n. n) 32 itself))
    (more (λ n. bit_xor n (up64 16 n)) 44 (more (λ n. n) 16 itself)))
    (more (λ n. bit_xor (bit_xor n (up64 8 n)) (up64 22 n)) 32 (more (λ n. bit_xor n (up64 8 n)) 22 (more (λ n. n) 8 itself))))
    (more (λ n. bit_xor (bit_xor n (up64 4 n)) (up64 11 n)) 16 (more (λ n. bit_xor n (up64 4 n)) 11 (more (λ n. n) 4 itself))))
    e_linear

-- ---- the step of two octets, k times
abbrev pub pairs : ℕ → ℕ → ℕ → ℕ
pairs zero check word = check
pairs (suc k) check word = pairs k (paired (bit_xor check (word % 65536))) (word / 65536)

pairs_linear : (k : ℕ) → Linear₂ (pairs k)
pairs_linear zero m n x y = refl
pairs_linear (suc k) m n x y =
    ap₂ (pairs k)
    (ap paired (ap (bit_xor (bit_xor m n)) (xor_mod x y 16) ∙ xor_swap m n (x % 65536) (y % 65536))
    ∙ paired_linear (bit_xor m (x % 65536)) (bit_xor n (y % 65536)))
    (xor_shr x y 16)
    ∙ pairs_linear k (paired (bit_xor m (x % 65536))) (paired (bit_xor n (y % 65536))) (x / 65536) (y / 65536)

-- ---- both as they are computed
eight_quick : ℕ → ℕ → ℕ
eight_quick check word = forced e (forced d (forced c (forced b (forced a (met check word)))))

eight_quick_is : (check word : ℕ) → eight_quick check word ≡ eight check word
unfolding eight_quick eight
eight_quick_is check word = forced_at e (forced_at d (forced_at c (forced_at b (forced_is a (met check word)))))

abbrev pairs_quick : ℕ → ℕ → ℕ → ℕ
pairs_quick zero check word = check
pairs_quick (suc k) check word =
    forced (λ m. forced (λ n. pairs_quick k m n) (word / 65536)) (paired_quick (bit_xor check (word % 65536)))

pairs_quick_is : (k check word : ℕ) → pairs_quick k check word ≡ pairs k check word
pairs_quick_is zero check word = refl
pairs_quick_is (suc k) check word =
    forced_is (λ m. forced (λ n. pairs_quick k m n) (word / 65536)) (paired_quick (bit_xor check (word % 65536)))
    ∙ forced_is (λ n. pairs_quick k (paired_quick (bit_xor check (word % 65536))) n) (word / 65536)
    ∙ pairs_quick_is k (paired_quick (bit_xor check (word % 65536))) (word / 65536)
    ∙ ap (λ (m : ℕ). pairs k m (word / 65536)) (paired_quick_is (bit_xor check (word % 65536)))

by_check : up_from (λ i. eight_quick (2 ^ i) 0) 16 0 ≡ up_from (λ i. pairs_quick 4 (2 ^ i) 0) 16 0
unfolding eight_quick paired_quick
by_check = refl

by_word : up_from (λ i. eight_quick 0 (2 ^ i)) 64 0 ≡ up_from (λ i. pairs_quick 4 0 (2 ^ i)) 64 0
unfolding eight_quick paired_quick
by_word = refl

-- eight octets are two and two and two and two
pub eight_pairs : (check word : ℕ) → check < 2 ^ 16 → word < 2 ^ 64 → eight check word ≡ pairs 4 check word
eight_pairs =
    same₂ eight (pairs 4) eight_linear (pairs_linear 4) eight_quick (pairs_quick 4) eight_quick_is (pairs_quick_is 4)
    16 64 by_check by_word

-- what the step needs to fit
pub eight_lt : (check word : ℕ) → eight check word < degree16
unfolding eight
eight_lt check word = mod-lt _ (omega arith)
