-- A list of coefficients that has remainder 0 and few that are 1, or all of those within 16 places, has none that is 1.
-- Assumes nothing.
use mathlib.Core.Path.{◌≡◌, refl, sym, ap, ap₂, ◌∙◌}
use mathlib.Core.Bool.{Bool, true, false, xor}
use mathlib.Core.List.{List, [], ◌∷◌, ◌++◌}
use Prim.Native.Nat.{ℕ, zero, suc, ◌+◌, ◌*◌, ◌^◌, ◌<◌, ◌≤◌}
use native.Mathlib.Omega.{arith}
use native.Mathlib.Nat.{pow-suc, mul_assoc, mul_comm, le_trans, mul-le-mul_right}
use lib.Pow.{pow_mono}
use lib.ListN.{length, get_or, take, drop, replicate, length-append, length-replicate, length-take, take-append-drop, replicate-append-replicate}
use lib.Seq.{get_or-append-add, get_or_at, get_or-drop}
use lib.Bits.{bit_xor, xor_zero_r}
use Rattle.crc_polynomial.specs.Polynomial.{coefficient, degree16, brought_down, step, reduced, divided, remainder, polynomial}
use Rattle.crc_polynomial.proofs.Xor.{xor_apart}
use Rattle.crc_polynomial.proofs.Laws.{coefficient_lt, step_lt, step_xor, divided_append, divided_lt, divided_small, polynomial_grows, zeros_zero, zeros_nonzero}
use Rattle.crc_order.specs.Order.{power, order}
use Rattle.crc_order.proofs.Order.{is_order}

abbrev pub Zeros : List Bool → Type 0
Zeros bs = bs ≡ replicate (length bs) false

-- no coefficient is 1, or the first that is stands behind m others
pub data Shape (bs : List Bool) : Type 0 where
  none : Zeros bs → Shape bs
  first : (m : ℕ) (rest : List Bool) → bs ≡ replicate m false ++ true ∷ rest → Shape bs

pub shape : (bs : List Bool) → Shape bs
shape [] = none refl
shape (true ∷ bs) = first 0 bs refl
shape (false ∷ bs) = behind (shape bs)
  where
    behind : Shape bs → Shape (false ∷ bs)
    behind (none e) = none (ap (λ (l : List Bool). false ∷ l) e)
    behind (first m rest e) = first (suc m) rest (ap (λ (l : List Bool). false ∷ l) e)

-- the coefficients that are 0 before the first that is 1 leave nothing
pub from_first : (m : ℕ) (rest : List Bool) → remainder (replicate m false ++ true ∷ rest) ≡ divided 1 rest
unfolding divided step reduced
from_first m rest =
    divided_append 0 (replicate m false) (true ∷ rest) ∙ ap (λ (r : ℕ). divided r (true ∷ rest)) (zeros_zero m)

-- ---- all within 16 places

no_index : (bs : List Bool) → ((k : ℕ) → get_or bs k false ≡ true → ⊥) → Zeros bs
no_index bs h = go (shape bs)
  where
    go : Shape bs → Zeros bs
    go (none e) = e
    go (first m rest e) =
        absurd (h m (ap (λ (l : List Bool). get_or l m false) e ∙ get_or_at (replicate m false) true rest false m (length-replicate m false)))

polynomial_lt : (n : ℕ) (bs : List Bool) → polynomial n bs < (n + 1) * 2 ^ length bs
unfolding polynomial
polynomial_lt n [] = omega arith
polynomial_lt n (b ∷ bs) =
    let double : (n + 1) * 2 ^ suc (length bs) ≡ (n + 1) * 2 * 2 ^ length bs =
    ap (λ (p : ℕ). (n + 1) * p) (pow-suc 2 (length bs) ∙ mul_comm (2 ^ length bs) 2)
    ∙ sym (mul_assoc (n + 1) 2 (2 ^ length bs)) in
    le_trans (polynomial_lt (brought_down n b) bs)
    (rw double (mul-le-mul_right (2 ^ length bs) (omega (arith, coefficient_lt b))))

-- a 1 and at most 15 coefficients behind it are their own remainder, and that is not 0
burst : (bs : List Bool) → length bs ≤ 15 → divided 1 bs ≡ 0 → ⊥
burst bs h e =
    let p : polynomial 1 bs ≡ 0 = sym (divided_small 1 bs (omega (arith, polynomial_lt 1 bs, pow_mono h))) ∙ e in
    omega (arith, polynomial_grows 1 bs)

pub span : (bs : List Bool) → ((k l : ℕ) → get_or bs k false ≡ true → get_or bs l false ≡ true → l ≤ k + 15)
    → remainder bs ≡ 0 → Zeros bs
span bs h e = go (shape bs)
  where
    go : Shape bs → Zeros bs
    go (none z) = z
    go (first m rest q) =
        absurd (burst (take 15 rest) (rw (length-take 15 rest) (omega arith)) (zeros_nonzero (length (drop 15 rest)) (divided 1 (take 15 rest)) (divided_lt 1 (take 15 rest) (omega arith)) ended))
      where
        at : (j : ℕ) → get_or rest j false ≡ true → get_or bs (m + suc j) false ≡ true
        at j t =
            ap₂ (λ (l : List Bool) (n : ℕ). get_or l (n + suc j) false) q (sym (length-replicate m false))
            ∙ get_or-append-add (replicate m false) (true ∷ rest) (suc j) false
            ∙ t

        start : get_or bs m false ≡ true
        start = ap (λ (l : List Bool). get_or l m false) q ∙ get_or_at (replicate m false) true rest false m (length-replicate m false)

        behind : Zeros (drop 15 rest)
        behind = no_index (drop 15 rest) (λ j t. omega (arith, h m (m + suc (15 + j)) start (at (15 + j) (sym (get_or-drop 15 rest j false) ∙ t))))

        ended : divided (divided 1 (take 15 rest)) (replicate (length (drop 15 rest)) false) ≡ 0
        ended =
            ap (divided (divided 1 (take 15 rest))) (sym behind)
            ∙ sym (divided_append 1 (take 15 rest) (drop 15 rest))
            ∙ ap (divided 1) (take-append-drop 15 rest)
            ∙ sym (from_first m rest) ∙ ap remainder (sym q) ∙ e

-- ---- at most three

unfoldable pub weight : List Bool → ℕ
weight [] = 0
weight (b ∷ bs) = coefficient b + weight bs

pub weight_zeros : (bs : List Bool) → weight bs ≡ 0 → Zeros bs
unfolding weight
weight_zeros [] e = refl
weight_zeros (true ∷ bs) e = absurd (omega arith)
weight_zeros (false ∷ bs) e = ap (λ (l : List Bool). false ∷ l) (weight_zeros bs (omega arith))

pub zeros_weight : (bs : List Bool) → Zeros bs → weight bs ≡ 0
unfolding weight
zeros_weight bs z = ap weight z ∙ none_weight (length bs)
  where
    none_weight : (n : ℕ) → weight (replicate n false) ≡ 0
    none_weight zero = refl
    none_weight (suc n) = omega (arith, none_weight n)

weight_first : (m : ℕ) (rest : List Bool) → weight (replicate m false ++ true ∷ rest) ≡ 1 + weight rest
unfolding weight
weight_first zero rest = refl
weight_first (suc m) rest = omega (arith, weight_first m rest)

weight_of : {bs : List Bool} (m : ℕ) (rest : List Bool) → bs ≡ replicate m false ++ true ∷ rest → weight bs ≡ 1 + weight rest
weight_of m rest e = ap weight e ∙ weight_first m rest

length_of : {bs : List Bool} (m : ℕ) (rest : List Bool) → bs ≡ replicate m false ++ true ∷ rest → length bs ≡ m + suc (length rest)
length_of m rest e = ap length e ∙ simp (length-append, length-replicate)

-- a coefficient that is 1, brought down, is 1 more than one that is 0
step_true : (r : ℕ) → r < degree16 → step r true ≡ bit_xor (step r false) 1
unfolding xor step reduced
step_true r h = ap (λ (x : ℕ). step x true) (sym (xor_zero_r r)) ∙ step_xor r 0 false true h (omega arith)

power_next : (k : ℕ) → power (k + 1) ≡ step (power k) false
unfolding divided
power_next k =
    ap (divided 1) (sym (replicate-append-replicate k 1 false)) ∙ divided_append 1 (replicate k false) (replicate 1 false)

-- two that are 1, p others between them: their remainder is 0 only at a multiple of the order of x
pair : (p : ℕ) (rest : List Bool) → Zeros rest → p + 1 < order → divided 1 (replicate p false ++ true ∷ rest) ≡ 0 → ⊥
unfolding divided
pair p rest z h e = is_order.first (p + 1) (omega arith) h (power_next p ∙ xor_apart _ _ (sym (step_true (power p) low) ∙ zero))
  where
    low : power p < degree16
    low = divided_lt 1 (replicate p false) (omega arith)

    zero : step (power p) true ≡ 0
    zero =
        zeros_nonzero (length rest) (step (power p) true) (step_lt (power p) true low)
        (ap (divided (step (power p) true)) (sym z) ∙ sym (divided_append 1 (replicate p false) (true ∷ rest)) ∙ e)

-- two that are 1 are seen in any list no longer than the order of x
pub two : (bs : List Bool) → length bs ≤ order → weight bs ≡ 2 → remainder bs ≡ 0 → ⊥
two bs l w e = go (shape bs)
  where
    inner : (m : ℕ) (rest : List Bool) → bs ≡ replicate m false ++ true ∷ rest → Shape rest → ⊥
    inner m rest q (none z) = omega (arith, weight_of m rest q, zeros_weight rest z)
    inner m rest q (first p end r) = pair p end (weight_zeros end (omega (arith, weight_of m rest q, weight_of p end r)))
        (omega (arith, length_of m rest q, length_of p end r))
        (ap (divided 1) (sym r) ∙ sym (from_first m rest) ∙ ap remainder (sym q) ∙ e)

    go : Shape bs → ⊥
    go (none z) = omega (arith, zeros_weight bs z)
    go (first m rest q) = inner m rest q (shape rest)
