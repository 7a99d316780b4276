-- Laws of the long division. Assumes nothing.
use mathlib.Core.Path.{◌≡◌, refl, sym, ap, ap₂, ◌∙◌, subst}
use mathlib.Core.Bool.{Bool, true, false, cond, xor, not-not}
use mathlib.Core.List.{List, [], ◌∷◌, ◌++◌}
use Prim.Native.Nat.{ℕ, zero, suc, ◌+◌, ◌*◌, ◌/◌, ◌%◌, ◌^◌, ◌<◌, ◌≤◌}
use native.Mathlib.Omega.{arith}
use native.Mathlib.Nat.{add-mul, mul_assoc, mul_comm, add_assoc, add-zero, pow-suc, le_trans, mod-lt, zero-lt-suc}
use native.Mathlib.Numerals.{one-add}
use lib.Dec.{leb, eqb}
use lib.ListN.{length, replicate}
use lib.Pow.{mod-pow-add}
use lib.Bits.{bit_xor, xor_lt, xor_shr, xor_self, xor_zero_r, xor_comm}
use borrow.Author.Tests.{leb-true, leb-false, le-leb, lt-leb}
use Rattle.crc_polynomial.specs.Polynomial.{odd, bits_of, coefficient, generator, degree16, brought_down, goes_into, reduced, step, divided, quotient_from, times_generator, polynomial, Divides}
use Rattle.crc_polynomial.proofs.Xor.{digit_cases, xor_assoc, xor_swap, xor_double, xor_apart}

pub coefficient_lt : (b : Bool) → coefficient b < 2
coefficient_lt true = omega arith
coefficient_lt false = omega arith

-- what is brought down has degree 16 at most
down_lt : (r : ℕ) (b : Bool) → r < degree16 → brought_down r b < 0x20000
down_lt r b h = omega (arith, coefficient_lt b)

-- ---- the two cases of `reduced`
pub reduced_over : (s : ℕ) → degree16 ≤ s → reduced s ≡ bit_xor s generator
unfolding reduced
reduced_over s h = rw (le-leb _ _ h)

pub reduced_under : (s : ℕ) → s < degree16 → reduced s ≡ s
unfolding reduced
reduced_under s h = rw (lt-leb _ _ h)

-- which of the two, with what is known there
data Size (s : ℕ) : Type 0 where
  over : degree16 ≤ s → Size s
  under : s < degree16 → Size s

size : (s : ℕ) → Size s
size s = go (leb degree16 s) refl
  where
    go : (t : Bool) → leb degree16 s ≡ t → Size s
    go true e = over (leb-true _ _ e)
    go false e = under (leb-false _ _ e)

top_over : (s : ℕ) → degree16 ≤ s → s < 0x20000 → s / 0x10000 ≡ 1
top_over s h l = omega arith

top_under : (s : ℕ) → s < degree16 → s / 0x10000 ≡ 0
top_under s h = omega arith

-- the top coefficient of a sum
top_xor : (u v : ℕ) {a b : ℕ} → u / 0x10000 ≡ a → v / 0x10000 ≡ b → bit_xor u v / 0x10000 ≡ bit_xor a b
top_xor u v p q = xor_shr u v 16 ∙ ap₂ bit_xor p q

under_of_top : (s : ℕ) → s / 0x10000 ≡ 0 → s < degree16
under_of_top s e = omega arith

over_of_top : (s : ℕ) → s / 0x10000 ≡ 1 → degree16 ≤ s
over_of_top s e = omega arith

pub reduced_lt : (s : ℕ) → s < 0x20000 → reduced s < degree16
reduced_lt s l = go (size s)
  where
    go : Size s → reduced s < degree16
    go (over h) = rw (reduced_over s h) (under_of_top _ (top_xor s generator (top_over s h l) refl))
    go (under h) = rw (reduced_under s h) h

pub step_lt : (r : ℕ) (b : Bool) → r < degree16 → step r b < degree16
unfolding step
step_lt r b h = reduced_lt _ (down_lt r b h)

-- ---- the division is linear
reduced_xor : (u v : ℕ) → u < 0x20000 → v < 0x20000 → reduced (bit_xor u v) ≡ bit_xor (reduced u) (reduced v)
reduced_xor u v hu hv = go (size u) (size v)
  where
    go : Size u → Size v → reduced (bit_xor u v) ≡ bit_xor (reduced u) (reduced v)
    go (over p) (over q) =
        rw (reduced_over u p, reduced_over v q)
        (reduced_under _ (under_of_top _ (top_xor u v (top_over u p hu) (top_over v q hv)))
        ∙ sym (xor_zero_r (bit_xor u v)) ∙ ap (bit_xor (bit_xor u v)) (sym (xor_self generator))
        ∙ xor_swap u v generator generator)
    go (over p) (under q) =
        rw (reduced_over u p, reduced_under v q)
        (reduced_over _ (over_of_top _ (top_xor u v (top_over u p hu) (top_under v q)))
        ∙ xor_assoc u v generator ∙ ap (bit_xor u) (xor_comm v generator) ∙ sym (xor_assoc u generator v))
    go (under p) (over q) =
        rw (reduced_under u p, reduced_over v q)
        (reduced_over _ (over_of_top _ (top_xor u v (top_under u p) (top_over v q hv))) ∙ xor_assoc u v generator)
    go (under p) (under q) =
        rw (reduced_under u p, reduced_under v q) (reduced_under _ (xor_lt 16 u v p q))

pub coefficient_xor : (b c : Bool) → coefficient (xor b c) ≡ bit_xor (coefficient b) (coefficient c)
unfolding xor
coefficient_xor true true = refl
coefficient_xor true false = refl
coefficient_xor false true = refl
coefficient_xor false false = refl

down_xor : (r s : ℕ) (b c : Bool) → brought_down (bit_xor r s) (xor b c) ≡ bit_xor (brought_down r b) (brought_down s c)
down_xor r s b c =
    ap (λ (x : ℕ). bit_xor r s * 2 + x) (coefficient_xor b c) ∙ sym (xor_double r s _ _ (coefficient_lt b) (coefficient_lt c))

pub step_xor : (r s : ℕ) (b c : Bool) → r < degree16 → s < degree16 → step (bit_xor r s) (xor b c) ≡ bit_xor (step r b) (step s c)
unfolding step
step_xor r s b c hr hs = ap reduced (down_xor r s b c) ∙ reduced_xor _ _ (down_lt r b hr) (down_lt s c hs)

pub divided_append : (r : ℕ) (xs ys : List Bool) → divided r (xs ++ ys) ≡ divided (divided r xs) ys
unfolding divided
divided_append r [] ys = refl
divided_append r (x ∷ xs) ys = divided_append (step r x) xs ys

pub divided_lt : (r : ℕ) (bs : List Bool) → r < degree16 → divided r bs < degree16
unfolding divided
divided_lt r [] h = h
divided_lt r (b ∷ bs) h = divided_lt (step r b) bs (step_lt r b h)

-- the sum of two polynomials of equal length, coefficient by coefficient
unfoldable pub sum : List Bool → List Bool → List Bool
sum [] ys = []
sum (x ∷ xs) [] = []
sum (x ∷ xs) (y ∷ ys) = xor x y ∷ sum xs ys

pub sum_zeros : (bs : List Bool) → sum (replicate (length bs) false) bs ≡ bs
unfolding sum xor
sum_zeros [] = refl
sum_zeros (b ∷ bs) = ap₂ (λ (c : Bool) (l : List Bool). c ∷ l) (not-not b) (sum_zeros bs)

pub divided_xor : (r s : ℕ) (xs ys : List Bool) → r < degree16 → s < degree16 → length xs ≡ length ys
    → divided (bit_xor r s) (sum xs ys) ≡ bit_xor (divided r xs) (divided s ys)
unfolding divided sum
divided_xor r s [] [] hr hs e = refl
divided_xor r s [] (y ∷ ys) hr hs e = absurd (omega arith)
divided_xor r s (x ∷ xs) [] hr hs e = absurd (omega arith)
divided_xor r s (x ∷ xs) (y ∷ ys) hr hs e =
    ap (λ (t : ℕ). divided t (sum xs ys)) (step_xor r s x y hr hs)
    ∙ divided_xor (step r x) (step s y) xs ys (step_lt r x hr) (step_lt s y hs) (omega arith)

pub polynomial_xor : (n m : ℕ) (xs ys : List Bool) → length xs ≡ length ys
    → polynomial (bit_xor n m) (sum xs ys) ≡ bit_xor (polynomial n xs) (polynomial m ys)
unfolding polynomial sum
polynomial_xor n m [] [] e = refl
polynomial_xor n m [] (y ∷ ys) e = absurd (omega arith)
polynomial_xor n m (x ∷ xs) [] e = absurd (omega arith)
polynomial_xor n m (x ∷ xs) (y ∷ ys) e =
    ap (λ (t : ℕ). polynomial t (sum xs ys)) (down_xor n m x y)
    ∙ polynomial_xor (brought_down n x) (brought_down m y) xs ys (omega arith)

pub polynomial_lt : (n m : ℕ) (bs : List Bool) → n < m → polynomial n bs < m * 2 ^ length bs
unfolding polynomial
polynomial_lt n m [] h = omega arith
polynomial_lt n m (b ∷ bs) h =
    subst (λ (k : ℕ). polynomial (brought_down n b) bs < k)
    (mul_assoc m 2 (2 ^ length bs) ∙ ap (λ (k : ℕ). m * k) (mul_comm 2 (2 ^ length bs) ∙ sym (pow-suc 2 (length bs))))
    (polynomial_lt (brought_down n b) (m * 2) bs (omega (arith, coefficient_lt b)))

-- ---- a polynomial of degree under 16 is its own remainder
pub polynomial_grows : (n : ℕ) (bs : List Bool) → n ≤ polynomial n bs
unfolding polynomial
polynomial_grows n [] = omega arith
polynomial_grows n (b ∷ bs) = le_trans (omega arith) (polynomial_grows (brought_down n b) bs)

pub divided_small : (r : ℕ) (bs : List Bool) → polynomial r bs < degree16 → divided r bs ≡ polynomial r bs
unfolding divided polynomial step
divided_small r [] h = refl
divided_small r (b ∷ bs) h =
    ap (λ (t : ℕ). divided t bs) (reduced_under _ (omega (arith, polynomial_grows (brought_down r b) bs)))
    ∙ divided_small (brought_down r b) bs h

pub coefficient_odd : (n : ℕ) → coefficient (odd n) ≡ n % 2
coefficient_odd n = digit_cases (λ (d : ℕ). coefficient (eqb d 1) ≡ d) refl refl (n % 2) (mod-lt n (zero-lt-suc 1))

shifted : (n d p m : ℕ) → (n * 2 + d) * p + m ≡ n * (p * 2) + (d * p + m)
shifted n d p m =
    ap (λ (k : ℕ). k + m) (add-mul (n * 2) d p)
    ∙ add_assoc (n * 2 * p) (d * p) m
    ∙ ap (λ (k : ℕ). k + (d * p + m)) (mul_assoc n 2 p ∙ ap (λ (k : ℕ). n * k) (mul_comm 2 p))

-- the w lowest bits of x, brought down behind n
pub polynomial_bits_of : (n w x : ℕ) → polynomial n (bits_of w x) ≡ n * 2 ^ w + x % 2 ^ w
unfolding polynomial bits_of
polynomial_bits_of n zero x = omega arith
polynomial_bits_of n (suc w) x =
    polynomial_bits_of (brought_down n (odd (x / 2 ^ w))) w x
    ∙ ap (λ (d : ℕ). (n * 2 + d) * 2 ^ w + x % 2 ^ w) (coefficient_odd (x / 2 ^ w))
    ∙ shifted n (x / 2 ^ w % 2) (2 ^ w) (x % 2 ^ w)
    ∙ ap₂ (λ (p m : ℕ). n * p + m) (sym (pow-suc 2 w))
    (sym (mod-pow-add x 1 w) ∙ ap (λ (k : ℕ). x % 2 ^ k) (one-add w))

-- ---- `remainder` is the remainder
reduced_plus : (s : ℕ) → reduced s ≡ bit_xor s (cond (goes_into s) generator 0)
unfolding reduced
reduced_plus s = go (goes_into s)
  where
    go : (t : Bool) → cond t (bit_xor s generator) s ≡ bit_xor s (cond t generator 0)
    go true = refl
    go false = sym (xor_zero_r s)

-- a term that is added to both of two terms leaves their sum as it was
both : (p s c : ℕ) → bit_xor p s ≡ bit_xor (bit_xor p c) (bit_xor s c)
both p s c = sym (xor_swap p c s c ∙ ap (bit_xor (bit_xor p s)) (xor_self c) ∙ xor_zero_r (bit_xor p s))

division_from : (v p r : ℕ) (bs : List Bool) → v ≡ bit_xor p r
    → polynomial v bs ≡ bit_xor (times_generator p (quotient_from r bs)) (divided r bs)
unfolding polynomial times_generator quotient_from divided step
division_from v p r [] e = e
division_from v p r (b ∷ bs) e = division_from (brought_down v b) _ _ bs
    (ap (λ (x : ℕ). brought_down x b) e
    ∙ sym (xor_double p r 0 (coefficient b) (omega arith) (coefficient_lt b))
    ∙ ap (λ (x : ℕ). bit_xor x (brought_down r b)) (add-zero (p * 2))
    ∙ both (p * 2) (brought_down r b) _
    ∙ ap (bit_xor (bit_xor (p * 2) _)) (sym (reduced_plus (brought_down r b))))

pub divides : (bs : List Bool) → Divides bs
divides bs = record { dividend = division_from 0 0 0 bs refl; degree = divided_lt 0 bs (omega arith) }

-- ---- coefficients that are 0
pub zeros_zero : (n : ℕ) → divided 0 (replicate n false) ≡ 0
unfolding divided step reduced
zeros_zero zero = refl
zeros_zero (suc n) = zeros_zero n

-- the generator's lowest coefficient is 1, so that no place makes 0 of what is not 0
pub step_nonzero : (r : ℕ) → r < degree16 → step r false ≡ 0 → r ≡ 0
unfolding step
step_nonzero r h e = go (size (brought_down r false))
  where
    go : Size (brought_down r false) → r ≡ 0
    go (over p) =
        let q : brought_down r false ≡ generator = xor_apart _ _ (sym (reduced_over _ p) ∙ e) in
        omega arith
    go (under p) = let q : brought_down r false ≡ 0 = sym (reduced_under _ p) ∙ e in omega arith

pub zeros_nonzero : (n r : ℕ) → r < degree16 → divided r (replicate n false) ≡ 0 → r ≡ 0
unfolding divided
zeros_nonzero zero r h e = e
zeros_nonzero (suc n) r h e = step_nonzero r h (zeros_nonzero n (step r false) (step_lt r false h) e)
