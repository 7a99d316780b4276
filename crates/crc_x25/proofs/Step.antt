-- The step by shifts is eight places of the division: both are linear, so that antt computes them at each power of x alone.
-- Assumes nothing.
use mathlib.Core.Path.{◌≡◌, refl, sym, ap, ap₂, ◌∙◌}
use mathlib.Core.Bool.{Bool, true, false, xor}
use mathlib.Core.List.{List, [], ◌∷◌, ◌++◌, append-nil, append_assoc}
use Prim.Native.Nat.{ℕ, zero, suc, ◌+◌, ◌*◌, ◌/◌, ◌%◌, ◌^◌, ◌<◌}
use native.Mathlib.Omega.{arith}
use native.Mathlib.Numerals.{add-one}
use lib.Dec.{eqb}
use lib.ListN.{length, get_or, take, drop, replicate}
use lib.Seq.{drop-cons}
use lib.Bits.{bit_xor, differ, xor_lt, xor_zero_r, xor_comm, xor_mod, xor_shr}
use lib.Pow.{shr-shr}
use Rattle.crc_polynomial.specs.Polynomial.{odd, coefficient, degree16, step, reduced, polynomial}
use Rattle.crc_polynomial.proofs.Xor.{digit_cases, xor_swap, below_two, half, last}
use Rattle.crc_polynomial.proofs.Laws.{coefficient_xor, coefficient_lt, step_xor, step_lt, sum, sum_zeros, polynomial_xor, polynomial_lt}
use Rattle.crc_polynomial.proofs.Linear.{Linear, Linear16, times, agree}
use Rattle.crc_x25.proofs.Shifts.{shifted, shifted_linear, paired, paired_linear, paired_twice, paired_above, two_at_once}
use Rattle.crc_x25.proofs.Words.{eight, eight_pairs, pairs}
use Rattle.field_words.proofs.Digits.{lows, below}
use Rattle.field_words.proofs.Pairs.{double, two_of}
use Rattle.field_words.proofs.Parts.{part}
use Rattle.field_words.specs.Words.{octets_up}
use Rattle.crc_x25.specs.Check.{bits_up, wire_bits, next, register, mirrored, x25, x25_from}

-- ---- the definition is linear
odd_xor : (a b : ℕ) → odd (bit_xor a b) ≡ xor (odd a) (odd b)
unfolding xor
odd_xor a b =
    ap (λ (d : ℕ). eqb d 1) (last a b)
    ∙ digit_cases (λ (x : ℕ). eqb (differ x (b % 2)) 1 ≡ xor (eqb x 1) (eqb (b % 2) 1))
    (digit_cases (λ (y : ℕ). eqb (differ 0 y) 1 ≡ xor false (eqb y 1)) refl refl (b % 2) (below_two b))
    (digit_cases (λ (y : ℕ). eqb (differ 1 y) 1 ≡ xor true (eqb y 1)) refl refl (b % 2) (below_two b))
    (a % 2) (below_two a)

bits_up_xor : (w a b : ℕ) → bits_up w (bit_xor a b) ≡ sum (bits_up w a) (bits_up w b)
unfolding bits_up sum
bits_up_xor zero a b = refl
bits_up_xor (suc w) a b =
    ap₂ (λ (c : Bool) (l : List Bool). c ∷ l) (odd_xor a b) (ap (bits_up w) (half a b) ∙ bits_up_xor w (a / 2) (b / 2))

bits_up_length : (w n : ℕ) → length (bits_up w n) ≡ w
unfolding bits_up
bits_up_length zero n = refl
bits_up_length (suc w) n = ap suc (bits_up_length w (n / 2))

mirrored_linear : Linear mirrored
unfolding mirrored
mirrored_linear a b =
    ap (polynomial 0) (bits_up_xor 16 a b)
    ∙ polynomial_xor 0 0 (bits_up 16 a) (bits_up 16 b) (bits_up_length 16 a ∙ sym (bits_up_length 16 b))

-- a bit at x^15
top_xor : (b c : Bool) → coefficient (xor b c) * 0x8000 ≡ bit_xor (coefficient b * 0x8000) (coefficient c * 0x8000)
top_xor b c = ap (λ (d : ℕ). d * 0x8000) (coefficient_xor b c) ∙ times 15 (coefficient b) (coefficient c)

met_lt : (r : ℕ) (b : Bool) → r < degree16 → bit_xor r (coefficient b * 0x8000) < degree16
met_lt r b h = xor_lt 16 r (coefficient b * 0x8000) h (omega (arith, coefficient_lt b))

next_lt : (r : ℕ) (b : Bool) → r < degree16 → next r b < degree16
unfolding next
next_lt r b h = step_lt _ false (met_lt r b h)

next_xor : (r s : ℕ) (b c : Bool) → r < degree16 → s < degree16 → next (bit_xor r s) (xor b c) ≡ bit_xor (next r b) (next s c)
unfolding next xor
next_xor r s b c hr hs =
    ap (λ (n : ℕ). step n false) (ap (bit_xor (bit_xor r s)) (top_xor b c) ∙ xor_swap r s _ _)
    ∙ step_xor _ _ false false (met_lt r b hr) (met_lt s c hs)

register_lt : (r : ℕ) (bs : List Bool) → r < degree16 → register r bs < degree16
unfolding register
register_lt r [] h = h
register_lt r (b ∷ bs) h = register_lt (next r b) bs (next_lt r b h)

register_xor : (r s : ℕ) (xs ys : List Bool) → r < degree16 → s < degree16 → length xs ≡ length ys
    → register (bit_xor r s) (sum xs ys) ≡ bit_xor (register r xs) (register s ys)
unfolding register sum
register_xor r s [] [] hr hs e = refl
register_xor r s [] (y ∷ ys) hr hs e = absurd (omega arith)
register_xor r s (x ∷ xs) [] hr hs e = absurd (omega arith)
register_xor r s (x ∷ xs) (y ∷ ys) hr hs e =
    ap (λ (t : ℕ). register t (sum xs ys)) (next_xor r s x y hr hs)
    ∙ register_xor (next r x) (next s y) xs ys (next_lt r x hr) (next_lt s y hs) (omega arith)

register_append : (r : ℕ) (xs ys : List Bool) → register r (xs ++ ys) ≡ register (register r xs) ys
unfolding register
register_append r [] ys = refl
register_append r (x ∷ xs) ys = register_append (next r x) xs ys

-- ---- a number in the other order, and back
mirrored_lt : (n : ℕ) → mirrored n < degree16
unfolding mirrored
mirrored_lt n = rw (bits_up_length 16 n) at (polynomial_lt 0 1 (bits_up 16 n) (omega arith))

mirrored_back : (n : ℕ) → n < degree16 → mirrored (mirrored n) ≡ n
unfolding mirrored bits_up polynomial
mirrored_back n h =
    agree (λ n. mirrored (mirrored n)) (λ n. n)
    (λ a b p q. ap mirrored (mirrored_linear a b) ∙ mirrored_linear (mirrored a) (mirrored b)) (λ a b p q. refl)
    16 refl n h h

-- ---- the step by shifts
places : List Bool
places = replicate 8 false

-- no bit is taken in, over eight places
passed : ℕ → ℕ
passed n = mirrored (register (mirrored n) places)

passed_linear : Linear16 passed
unfolding passed places sum xor
passed_linear a b p q =
    ap (λ (n : ℕ). mirrored (register n places)) (mirrored_linear a b)
    ∙ ap mirrored (register_xor (mirrored a) (mirrored b) places places (mirrored_lt a) (mirrored_lt b) refl)
    ∙ mirrored_linear (register (mirrored a) places) (register (mirrored b) places)

passed_shifted : (n : ℕ) → n < degree16 → passed n ≡ shifted n
unfolding passed places mirrored bits_up polynomial register next step reduced shifted
passed_shifted n h = agree passed shifted passed_linear (λ a b p q. shifted_linear a b) 16 refl n h h

-- an octet taken in by a register of 0
taken : ℕ → ℕ
taken x = mirrored (register 0 (bits_up 8 x))

taken_linear : Linear16 taken
unfolding taken
taken_linear a b p q =
    ap (λ (bs : List Bool). mirrored (register 0 bs)) (bits_up_xor 8 a b)
    ∙ ap mirrored (register_xor 0 0 (bits_up 8 a) (bits_up 8 b) (omega arith) (omega arith) (bits_up_length 8 a ∙ sym (bits_up_length 8 b)))
    ∙ mirrored_linear (register 0 (bits_up 8 a)) (register 0 (bits_up 8 b))

taken_shifted : (x : ℕ) → x < 256 → taken x ≡ shifted x
unfolding taken mirrored bits_up polynomial register next step reduced shifted
taken_shifted x h = agree taken shifted taken_linear (λ a b p q. shifted_linear a b) 8 refl x h (omega arith)

sum_eight : (x : ℕ) → sum places (bits_up 8 x) ≡ bits_up 8 x
unfolding places
sum_eight x = rw (bits_up_length 8 x) at (sum_zeros (bits_up 8 x))

pub octet_step : (check x : ℕ) → check < degree16 → x < 256 → shifted (bit_xor check x) ≡ x25_from check (x ∷ [])
unfolding x25_from wire_bits places passed taken
octet_step check x hc hx =
    shifted_linear check x
    ∙ ap₂ bit_xor (sym (passed_shifted check hc)) (sym (taken_shifted x hx))
    ∙ sym (mirrored_linear (register (mirrored check) places) (register 0 (bits_up 8 x)))
    ∙ ap mirrored
    (sym (register_xor (mirrored check) 0 places (bits_up 8 x) (mirrored_lt check) (omega arith) (sym (bits_up_length 8 x))))
    ∙ ap₂ (λ (r : ℕ) (bs : List Bool). mirrored (register r bs)) (xor_zero_r (mirrored check))
    (sum_eight x ∙ sym (append-nil (bits_up 8 x)))

-- ---- the octet at i, and then the others
pub from_lt : (check : ℕ) (octets : List ℕ) → x25_from check octets < degree16
unfolding x25_from
from_lt check octets = mirrored_lt _

octet_first : (check : ℕ) (octets : List ℕ) (i : ℕ) → i < length octets
    → x25_from check (drop i octets) ≡ x25_from (x25_from check (get_or octets i 0 ∷ [])) (drop (i + 1) octets)
unfolding x25_from wire_bits
octet_first check octets i h =
    rw (add-one, drop-cons octets i 0, append-nil)
    (ap mirrored (register_append (mirrored check) (bits_up 8 (get_or octets i 0)) (wire_bits (drop (suc i) octets)))
    ∙ ap (λ (r : ℕ). mirrored (register r (wire_bits (drop (suc i) octets))))
    (sym (mirrored_back _ (register_lt (mirrored check) (bits_up 8 (get_or octets i 0)) (mirrored_lt check)))))

-- ---- two octets at once
pub pair_step : (check x y : ℕ) → check < degree16 → x < 256 → y < 256
    → paired (bit_xor check (y * 256 + x)) ≡ x25_from check (x ∷ y ∷ [])
pair_step check x y hc hx hy =
    two_at_once paired shifted paired_linear shifted_linear paired_twice paired_above check x y hc hx hy
    ∙ ap (λ (n : ℕ). shifted (bit_xor n y)) (octet_step check x hc hx)
    ∙ octet_step (x25_from check (x ∷ [])) y (from_lt check (x ∷ [])) hy
    ∙ sym (octet_first check (x ∷ y ∷ []) 0 (omega arith))

-- what the steps of the calculation need to fit
pub pair_lt : (check x y : ℕ) → check < degree16 → x < 256 → y < 256 → bit_xor check (y * 256 + x) < degree16
pair_lt check x y hc hx hy = xor_lt 16 check (y * 256 + x) hc (omega arith)

-- a running check of FFFF is the start
pub starts : (octets : List ℕ) → x25_from 0xFFFF octets ≡ x25 octets
unfolding x25_from x25 mirrored bits_up polynomial
starts octets = refl

-- ---- eight octets at once
wire_bits_append : (xs ys : List ℕ) → wire_bits (xs ++ ys) ≡ wire_bits xs ++ wire_bits ys
unfolding wire_bits
wire_bits_append [] ys = refl
wire_bits_append (x ∷ xs) ys =
    ap (λ (bs : List Bool). bits_up 8 x ++ bs) (wire_bits_append xs ys) ∙ sym (append_assoc (bits_up 8 x) (wire_bits xs) (wire_bits ys))

pub from_append : (check : ℕ) (xs ys : List ℕ) → x25_from check (xs ++ ys) ≡ x25_from (x25_from check xs) ys
unfolding x25_from
from_append check xs ys =
    ap (λ (bs : List Bool). mirrored (register (mirrored check) bs)) (wire_bits_append xs ys)
    ∙ ap mirrored (register_append (mirrored check) (wire_bits xs) (wire_bits ys))
    ∙ ap (λ (r : ℕ). mirrored (register r (wire_bits ys)))
    (sym (mirrored_back _ (register_lt (mirrored check) (wire_bits xs) (mirrored_lt check))))

pub from_none : (check : ℕ) → check < degree16 → check ≡ x25_from check []
unfolding x25_from wire_bits register
from_none check h = sym (mirrored_back check h)

pairs_step : (k check word : ℕ) → check < degree16 → pairs k check word ≡ x25_from check (octets_up (double k) word)
unfolding octets_up double
pairs_step zero check word h = from_none check h
pairs_step (suc k) check word h =
    let x = word % 256 in
    let y = word / 256 % 256 in
    ap₂ (pairs k)
    (ap (λ (n : ℕ). paired (bit_xor check n)) (two_of word) ∙ pair_step check x y h (omega arith) (omega arith))
    (sym (shr-shr word 8 8))
    ∙ pairs_step k (x25_from check (x ∷ y ∷ [])) (word / 256 / 256) (from_lt check (x ∷ y ∷ []))
    ∙ sym (from_append check (x ∷ y ∷ []) (octets_up (double k) (word / 256 / 256)))

pub eight_step : (check word : ℕ) → check < degree16 → word < 2 ^ 64 → eight check word ≡ x25_from check (octets_up 8 word)
unfolding double
eight_step check word hc hw = eight_pairs check word hc hw ∙ pairs_step 4 check word hc

-- a number's four lowest octets behind four zeros
pub above_zeros : (first : ℕ) → octets_up 8 (first * 4294967296 % 2 ^ 64) ≡ 0 ∷ 0 ∷ 0 ∷ 0 ∷ octets_up 4 first
above_zeros first =
    lows 8 (first * 4294967296)
    ∙ below 7 _ (first * 16777216) (omega arith)
    ∙ ap (λ (xs : List ℕ). 0 ∷ xs) (below 6 _ (first * 65536) (omega arith)
    ∙ ap (λ (xs : List ℕ). 0 ∷ xs) (below 5 _ (first * 256) (omega arith)
    ∙ ap (λ (xs : List ℕ). 0 ∷ xs) (below 4 _ first (omega arith))))

-- ---- four octets at once: the check is met first, and four zeros leave a check of 0 as it is
pub met_first : (k check word : ℕ) → check < degree16
    → x25_from 0 (octets_up (double (suc k)) (bit_xor word check)) ≡ x25_from check (octets_up (double (suc k)) word)
met_first k check word h =
    let none : check / 65536 ≡ 0 = omega arith in
    let all : check % 65536 ≡ check = omega arith in
    sym (pairs_step (suc k) 0 (bit_xor word check) (omega arith))
    ∙ ap₂ (λ (m n : ℕ). pairs k (paired m) n)
    (xor_comm 0 (bit_xor word check % 65536)
    ∙ xor_zero_r (bit_xor word check % 65536)
    ∙ xor_mod word check 16
    ∙ ap (bit_xor (word % 65536)) all
    ∙ xor_comm (word % 65536) check)
    (xor_shr word check 16 ∙ ap (bit_xor (word / 65536)) none ∙ xor_zero_r (word / 65536))
    ∙ pairs_step (suc k) check word h

pub zeros_passed : (xs : List ℕ) → x25_from 0 (0 ∷ 0 ∷ 0 ∷ 0 ∷ xs) ≡ x25_from 0 xs
unfolding x25_from mirrored bits_up polynomial register next step reduced wire_bits
zeros_passed xs = from_append 0 (0 ∷ 0 ∷ 0 ∷ 0 ∷ []) xs

-- octets and then one more: k octets from i on, and then the others
pub part_next : (k check : ℕ) (octets : List ℕ) (extra i : ℕ) {first : List ℕ} → first ≡ take k (drop i octets)
    → x25_from check (drop i octets ++ extra ∷ []) ≡ x25_from (x25_from check first) (drop (i + k) octets ++ extra ∷ [])
part_next k check octets extra i {first} e =
    ap (λ (xs : List ℕ). x25_from check (xs ++ extra ∷ [])) (part k octets i e)
    ∙ ap (x25_from check) (append_assoc first (drop (i + k) octets) (extra ∷ []))
    ∙ from_append check first (drop (i + k) octets ++ extra ∷ [])

-- the check of octets that follow others, from the start on
pub after : (xs ys : List ℕ) → x25_from (x25 xs) ys ≡ x25 (xs ++ ys)
after xs ys =
    ap (λ (n : ℕ). x25_from n ys) (sym (starts xs)) ∙ sym (from_append 0xFFFF xs ys) ∙ starts (xs ++ ys)

-- zeros turn some number into the start
abbrev Before : ℕ → ℕ → Type 0
Before check zeros = (xs : List ℕ) → x25_from check (replicate zeros 0 ++ xs) ≡ x25 xs

before : (check zeros : ℕ) → x25_from check (replicate zeros 0) ≡ 0xFFFF → Before check zeros
before check zeros start xs = from_append check (replicate zeros 0) xs ∙ ap (λ (n : ℕ). x25_from n xs) start ∙ starts xs

pub zero_before : Before 0x3078 1
unfolding x25_from mirrored bits_up polynomial register next step reduced wire_bits
zero_before = before 0x3078 1 refl

pub zeros_before : Before 0x8EB4 3
unfolding x25_from mirrored bits_up polynomial register next step reduced wire_bits
zeros_before = before 0x8EB4 3 refl

pub four_before : Before 0xEC2A 4
unfolding x25_from mirrored bits_up polynomial register next step reduced wire_bits
four_before = before 0xEC2A 4 refl
