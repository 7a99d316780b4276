-- The order of x. A power that is 1 lower down would be one at a divisor of the order, by Euclid's argument, and those are
-- computed. Assumes nothing.
use mathlib.Core.Path.{◌≡◌, refl, sym, ap, ◌∙◌, subst}
use mathlib.Core.Bool.{Bool, true, false, not, cond}
use Prim.Native.Nat.{ℕ, zero, suc, ◌+◌, ◌*◌, ◌-◌, ◌/◌, ◌%◌, ◌<◌, ◌≤◌}
use native.Mathlib.Nat.{zero-add, zero-mul, one-mul, suc-mul, mod-lt, mul-le-mul, mul-mod_right, mul-div_right, div-add-mod', div-mul_cancel, dvd_of_mod-eq-zero}
use native.Mathlib.Omega.{arith}
use borrow.Author.Tests.{eq-eqb, ltb-true, ltb-false}
use lib.Dec.{eqb, ltb}
use lib.ListN.{replicate, replicate-append-replicate}
use Rattle.crc_polynomial.specs.Polynomial.{divided, step, reduced}
use Rattle.crc_polynomial.proofs.Laws.{divided_append}
use Rattle.crc_polynomial.proofs.Linear.{everywhere}
use Rattle.crc_polynomial.proofs.Shifts.{left, sixteen_places}
use Rattle.crc_order.specs.Order.{power, order, IsOrder}

-- places after places
split : (r a b : ℕ) → divided r (replicate (a + b) false) ≡ divided (divided r (replicate a false)) (replicate b false)
split r a b = ap (divided r) (sym (replicate-append-replicate a b false)) ∙ divided_append r (replicate a false) (replicate b false)

-- ---- a power, sixteen places at once
blocks : ℕ → ℕ → ℕ
blocks zero r = r
blocks (suc n) r = blocks n (left r)

by_blocks : (n r : ℕ) → r < 65536 → divided r (replicate (n * 16) false) ≡ blocks n r
unfolding blocks divided
by_blocks zero r h = refl
by_blocks (suc n) r h =
    let more : suc n * 16 ≡ 16 + n * 16 = omega arith in
    ap (λ (k : ℕ). divided r (replicate k false)) more
    ∙ split r 16 (n * 16)
    ∙ ap (λ (s : ℕ). divided s (replicate (n * 16) false)) (sym (sixteen_places r h))
    ∙ by_blocks n (left r) (mod-lt _ (omega arith))

quick : ℕ → ℕ
quick k = divided (blocks (k / 16) 1) (replicate (k % 16) false)

quick_power : (k : ℕ) → power k ≡ quick k
unfolding quick
quick_power k =
    ap power (sym (div-add-mod' k 16))
    ∙ split 1 (k / 16 * 16) (k % 16)
    ∙ ap (λ (r : ℕ). divided r (replicate (k % 16) false)) (by_blocks (k / 16) 1 (omega arith))

-- ---- where x^k is 1, and x^n, x to the remainder of n by k is
on : (a b : ℕ) → power a ≡ 1 → power (a + b) ≡ power b
on a b e = split 1 a b ∙ ap (λ (r : ℕ). divided r (replicate b false)) e

multiple : (q k r : ℕ) → power k ≡ 1 → power (q * k + r) ≡ power r
multiple zero k r e = rw (zero-mul, zero-add)
multiple (suc q) k r e =
    let more : suc q * k + r ≡ k + (q * k + r) = rw suc-mul (omega arith) in
    ap power more ∙ on k (q * k + r) e ∙ multiple q k r e

-- so that the lowest such k divides n
module _ (n : ℕ) (whole : power n ≡ 1) (none : (k : ℕ) → 0 < k → k < n → n % k ≡ 0 → power k ≡ 1 → ⊥) where
  lowest : (bound k : ℕ) → k < bound → 0 < k → k < n → power k ≡ 1 → ⊥
  lowest zero k b p l e = omega arith
  lowest (suc bound) k b p l e =
      go (n % k) refl (mod-lt n p) (sym (multiple (n / k) k (n % k) e) ∙ ap power (div-add-mod' n k) ∙ whole) (lowest bound)
    where
      go : (r : ℕ) → n % k ≡ r → r < k → power r ≡ 1 → ((j : ℕ) → j < bound → 0 < j → j < n → power j ≡ 1 → ⊥) → ⊥
      go zero z s f later = none k p l z e
      go (suc r) z s f later = later (suc r) (omega arith) (omega arith) (omega arith) f

-- ---- the divisors: one of a pair is below 182
clear : ℕ → ℕ → Bool
clear a b = cond (eqb (order % a) 0) (not (eqb (quick b) 1)) true

below : (a : ℕ) → a < 182 → clear a a ≡ true
unfolding clear quick blocks divided step reduced
below = everywhere (λ a. clear a a) (λ a. true) 182 refl

above : (i : ℕ) → i < 180 → clear (i + 2) (order / (i + 2)) ≡ true
unfolding clear quick blocks divided step reduced
above = everywhere (λ i. clear (i + 2) (order / (i + 2))) (λ i. true) 180 refl

not_one : (a b : ℕ) → clear a b ≡ true → order % a ≡ 0 → power b ≡ 1 → ⊥
unfolding clear
not_one a b c d e =
    let t = rw (eq-eqb _ _ d, eq-eqb _ _ (sym (quick_power b) ∙ e)) at c in
    let z : ◌≡◌ {A = ℕ} 0 1 = cc in
    omega arith

-- q times k is the order
module _ (q k : ℕ) (pair : q * k ≡ order) where
  some : k < order → 2 ≤ q
  some l = go q pair
    where
      go : (a : ℕ) → a * k ≡ order → 2 ≤ a
      go zero e = let z = rw zero-mul at e in absurd (omega arith)
      go (suc zero) e = let z = rw one-mul at e in absurd (omega arith)
      go (suc (suc a)) e = omega arith

  few : 182 ≤ k → q < 182
  few h = go (ltb q 182) refl
    where
      go : (t : Bool) → ltb q 182 ≡ t → q < 182
      go true t = ltb-true _ _ t
      go false t = let m = rw pair at (mul-le-mul {n₁ = 182} {m₁ = 182} {n₂ = q} {m₂ = k} (ltb-false _ _ t) h) in absurd (omega arith)

  paired : 182 ≤ k → k < order → power k ≡ 1 → ⊥
  paired h l e =
      let two = some l in
      let most = few h in
      let back : q - 2 + 2 ≡ q = omega arith in
      not_one q (order / q) (subst (λ (a : ℕ). clear a (order / a) ≡ true) back (above (q - 2) (omega arith)))
      (ap (λ (n : ℕ). n % q) (sym pair) ∙ mul-mod_right q k)
      (ap power (ap (λ (n : ℕ). n / q) (sym pair) ∙ mul-div_right k (omega arith)) ∙ e)

no_divisor : (k : ℕ) → 0 < k → k < order → order % k ≡ 0 → power k ≡ 1 → ⊥
no_divisor k p l d e = go (ltb k 182) refl
  where
    go : (t : Bool) → ltb k 182 ≡ t → ⊥
    go true t = not_one k k (below k (ltb-true _ _ t)) d e
    go false t = paired (order / k) k (div-mul_cancel k (dvd_of_mod-eq-zero k d)) (ltb-false _ _ t) l e

computed : quick order ≡ 1
unfolding quick blocks divided step reduced
computed = refl

returns : power order ≡ 1
returns = quick_power order ∙ computed

first : (k : ℕ) → 0 < k → k < order → power k ≡ 1 → ⊥
first k = lowest order returns no_divisor (suc k) k (omega arith)

pub is_order : IsOrder
is_order = record { returns = returns; first = first }
