-- Sixty-four places of the long division at once, by shifts of 64 bits: they are sixteen places four times. Both are linear in the
-- running remainder and the word, so that antt computes them at each power of x alone. Assumes nothing.
use mathlib.Core.Path.{◌≡◌, refl, ap, ap₂, ◌∙◌}
use Prim.Native.Nat.{ℕ, zero, suc, ◌*◌, ◌/◌, ◌%◌, ◌^◌, ◌<◌}
use native.Mathlib.Omega.{arith}
use native.Mathlib.Nat.{mod-lt}
use lib.Bits.{bit_xor, xor_lt, xor_mod, xor_shr}
use Rattle.crc_polynomial.specs.Polynomial.{degree16}
use Rattle.crc_polynomial.proofs.Xor.{xor_swap}
use Rattle.crc_polynomial.proofs.Linear.{up_from, Linear, both}
use Rattle.crc_polynomial.proofs.Wide.{Linear₂, itself, low, down, up, behind₂, both₂, forced, forced_is, forced_at, same₂}
use Rattle.crc_polynomial.proofs.Shifts.{quotient, spread, left, left_linear}

-- ---- the step by shifts
abbrev up64 : ℕ → ℕ → ℕ
up64 k n = n * 2 ^ k % 2 ^ 64

-- the running remainder and then the first six octets
abbrev joined : ℕ → ℕ → ℕ
joined check word = bit_xor (up64 48 check) (word / 2 ^ 16)

-- the quotient of that, followed by 16 zero bits
abbrev a : ℕ → ℕ
a n = bit_xor n (n / 2 ^ 32)

abbrev b : ℕ → ℕ
b n = bit_xor (bit_xor n (n / 2 ^ 16)) (n / 2 ^ 44)

abbrev c : ℕ → ℕ
c n = bit_xor (bit_xor (bit_xor n (n / 2 ^ 8)) (n / 2 ^ 22)) (n / 2 ^ 32)

abbrev d : ℕ → ℕ
d n = bit_xor (bit_xor (bit_xor n (n / 2 ^ 4)) (n / 2 ^ 11)) (n / 2 ^ 16)

-- what it leaves, with the last two octets
abbrev e : ℕ → ℕ → ℕ
e q word = bit_xor (bit_xor (bit_xor q (up64 5 q)) (up64 12 q)) word % 65536

unfoldable pub eight : ℕ → ℕ → ℕ
eight check word = e (d (c (b (a (joined check word))))) word

less : (f : ℕ → ℕ) (k : ℕ) → Linear f → Linear (λ n. bit_xor (f n) (n / 2 ^ k))
less f k lf = both f (λ n. n / 2 ^ k) lf (down k)

joined_linear : Linear₂ joined
joined_linear = both₂ (λ m n. up64 48 m) (λ m n. n / 2 ^ 16) (λ m n x y. up 64 48 m n) (λ m n x y. xor_shr x y 16)

quotient_linear : Linear₂ (λ m n. d (c (b (a (joined m n)))))
quotient_linear =
    behind₂ (λ m n. c (b (a (joined m n)))) d
    (behind₂ (λ m n. b (a (joined m n))) c
    (behind₂ (λ m n. a (joined m n)) b
    (behind₂ joined a joined_linear (less (λ n. n) 32 itself))
    (less (λ n. bit_xor n (n / 2 ^ 16)) 44 (less (λ n. n) 16 itself)))
    (less (λ n. bit_xor (bit_xor n (n / 2 ^ 8)) (n / 2 ^ 22)) 32 (less (λ n. bit_xor n (n / 2 ^ 8)) 22 (less (λ n. n) 8 itself))))
    (less (λ n. bit_xor (bit_xor n (n / 2 ^ 4)) (n / 2 ^ 11)) 16 (less (λ n. bit_xor n (n / 2 ^ 4)) 11 (less (λ n. n) 4 itself)))

wide_linear : Linear (λ q. bit_xor (bit_xor q (up64 5 q)) (up64 12 q))
wide_linear =
    both (λ q. bit_xor q (up64 5 q)) (up64 12) (both (λ q. q) (up64 5) itself (up 64 5)) (up 64 12)

eight_linear : Linear₂ eight
unfolding eight
eight_linear =
    behind₂ (λ m n. bit_xor (bit_xor (bit_xor (d (c (b (a (joined m n))))) (up64 5 (d (c (b (a (joined m n))))))) (up64 12 (d (c (b (a (joined m n))))))) n)
    (λ n. n % 65536)
    (both₂ (λ m n. bit_xor (bit_xor (d (c (b (a (joined m n))))) (up64 5 (d (c (b (a (joined m n))))))) (up64 12 (d (c (b (a (joined m n)))))))
    (λ m n. n)
    (behind₂ (λ m n. d (c (b (a (joined m n))))) (λ q. bit_xor (bit_xor q (up64 5 q)) (up64 12 q)) quotient_linear wide_linear)
    (λ m n x y. refl))
    (low 16)

-- ---- sixteen places, k times: the last two octets behind the others
abbrev pub pairs : ℕ → ℕ → ℕ → ℕ
pairs zero check word = check
pairs (suc k) check word = bit_xor (left (pairs k check (word / 65536))) (word % 65536)

pairs_linear : (k : ℕ) → Linear₂ (pairs k)
pairs_linear zero m n x y = refl
pairs_linear (suc k) m n x y =
    ap₂ bit_xor
    (ap left (ap (pairs k (bit_xor m n)) (xor_shr x y 16) ∙ pairs_linear k m n (x / 65536) (y / 65536))
    ∙ left_linear (pairs k m (x / 65536)) (pairs k n (y / 65536)))
    (xor_mod x y 16)
    ∙ xor_swap (left (pairs k m (x / 65536))) (left (pairs k n (y / 65536))) (x % 65536) (y % 65536)

pub pairs_lt : (k check word : ℕ) → check < degree16 → pairs k check word < degree16
pairs_lt zero check word h = h
pairs_lt (suc k) check word h =
    xor_lt 16 (left (pairs k check (word / 65536))) (word % 65536) (mod-lt _ (omega arith)) (mod-lt word (omega arith))

-- ---- both as they are computed
eight_quick : ℕ → ℕ → ℕ
eight_quick check word = forced (λ q. e q word) (forced d (forced c (forced b (forced a (joined check word)))))

eight_quick_is : (check word : ℕ) → eight_quick check word ≡ eight check word
unfolding eight_quick eight
eight_quick_is check word =
    forced_at (λ q. e q word) (forced_at d (forced_at c (forced_at b (forced_is a (joined check word)))))

left_quick : ℕ → ℕ
left_quick n = forced (λ q. spread q % 65536) (forced quotient n)

left_quick_is : (n : ℕ) → left_quick n ≡ left n
unfolding left_quick
left_quick_is n = forced_at (λ q. spread q % 65536) (forced_is quotient n)

abbrev pairs_quick : ℕ → ℕ → ℕ → ℕ
pairs_quick zero check word = check
pairs_quick (suc k) check word = bit_xor (left_quick (pairs_quick k check (word / 65536))) (word % 65536)

pairs_quick_is : (k check word : ℕ) → pairs_quick k check word ≡ pairs k check word
pairs_quick_is zero check word = refl
pairs_quick_is (suc k) check word =
    ap (λ (n : ℕ). bit_xor n (word % 65536))
    (left_quick_is (pairs_quick k check (word / 65536)) ∙ ap left (pairs_quick_is k check (word / 65536)))

by_check : up_from (λ i. eight_quick (2 ^ i) 0) 16 0 ≡ up_from (λ i. pairs_quick 4 (2 ^ i) 0) 16 0
unfolding eight_quick left_quick
by_check = refl

by_word : up_from (λ i. eight_quick 0 (2 ^ i)) 64 0 ≡ up_from (λ i. pairs_quick 4 0 (2 ^ i)) 64 0
unfolding eight_quick left_quick
by_word = refl

-- eight octets are two and two and two and two
pub eight_pairs : (check word : ℕ) → check < 2 ^ 16 → word < 2 ^ 64 → eight check word ≡ pairs 4 check word
eight_pairs =
    same₂ eight (pairs 4) eight_linear (pairs_linear 4) eight_quick (pairs_quick 4) eight_quick_is (pairs_quick_is 4)
    16 64 by_check by_word

-- what the step needs to fit
pub eight_lt : (check word : ℕ) → eight check word < degree16
unfolding eight
eight_lt check word = mod-lt _ (omega arith)
