-- The frame check sequence catches what specs/Strength.antt says, by the difference of the two bodies: it has remainder 0 where
-- the checks are equal. Assumes nothing.
use mathlib.Core.Path.{◌≡◌, refl, sym, ap, ap₂, ◌∙◌}
use mathlib.Core.Bool.{Bool, true, false, xor}
use mathlib.Core.List.{List, [], ◌∷◌, ◌++◌}
use mathlib.Core.Logic.{⊎_elim}
use Prim.Native.Nat.{ℕ, zero, suc, ◌+◌, ◌*◌, ◌%◌, ◌<◌, ◌≤◌}
use native.Mathlib.Omega.{arith}
use lib.ListN.{length, get_or, take, drop}
use lib.Seq.{take_at, drop_at, take-suc, take-length}
use lib.Bits.{bit_xor, xor_self}
use Rattle.crc_polynomial.specs.Polynomial.{bits_of, bits_of_octets, Octets, coefficient, remainder, polynomial}
use Rattle.crc_polynomial.proofs.Laws.{sum, divided_xor, polynomial_bits_of}
use Rattle.crc_order.specs.Order.{order}
use Rattle.crc_gdl90.specs.Check.{frame_check}
use Rattle.crc_gdl90_strength.specs.BitNumbers.{differ_at, differ_below}
use Rattle.crc_gdl90_strength.specs.Strength.{TwoBodies, AtMostThreeBits, Within16Bits, Strength}
use Rattle.crc_gdl90_strength.specs.Reach.{Reach}
use Rattle.crc_gdl90_strength.proofs.Bits.{length_bits, length_bits_of, bits_at, get_d_sum, length_sum}
use Rattle.crc_gdl90_strength.proofs.Shape.{weight, zeros_weight, span, two}
use Rattle.crc_gdl90_strength.proofs.Parity.{even}

-- ---- a difference with no 1 in it: the same bodies

sum_same : (xs ys : List Bool) → length xs ≡ length ys → weight (sum xs ys) ≡ 0 → xs ≡ ys
unfolding sum weight xor
sum_same [] [] l e = refl
sum_same [] (y ∷ ys) l e = absurd (omega arith)
sum_same (x ∷ xs) [] l e = absurd (omega arith)
sum_same (true ∷ xs) (true ∷ ys) l e = ap (λ (bs : List Bool). true ∷ bs) (sum_same xs ys (omega arith) (omega arith))
sum_same (true ∷ xs) (false ∷ ys) l e = absurd (omega arith)
sum_same (false ∷ xs) (true ∷ ys) l e = absurd (omega arith)
sum_same (false ∷ xs) (false ∷ ys) l e = ap (λ (bs : List Bool). false ∷ bs) (sum_same xs ys (omega arith) (omega arith))

octet_of : (x y : ℕ) → x < 256 → y < 256 → bits_of 8 x ≡ bits_of 8 y → x ≡ y
octet_of x y hx hy e =
    omega (arith, sym (polynomial_bits_of 0 8 x) ∙ ap (polynomial 0) e ∙ polynomial_bits_of 0 8 y)

octets_of : (a b : List ℕ) → Octets a → Octets b → length a ≡ length b → bits_of_octets a ≡ bits_of_octets b → a ≡ b
unfolding bits_of_octets
octets_of [] [] ha hb l e = refl
octets_of [] (y ∷ ys) ha hb l e = absurd (omega arith)
octets_of (x ∷ xs) [] ha hb l e = absurd (omega arith)
octets_of (x ∷ xs) (y ∷ ys) ha hb l e =
    ap₂ (λ (z : ℕ) (zs : List ℕ). z ∷ zs)
    (octet_of x y (ha 0) (hb 0)
    (sym (take_at (bits_of 8 x) (bits_of_octets xs) 8 (length_bits_of 8 x)) ∙ ap (take 8) e ∙ take_at (bits_of 8 y) (bits_of_octets ys) 8 (length_bits_of 8 y)))
    (octets_of xs ys (λ i. ha (suc i)) (λ i. hb (suc i)) (omega arith)
    (sym (drop_at (bits_of 8 x) (bits_of_octets xs) 8 (length_bits_of 8 x)) ∙ ap (drop 8) e ∙ drop_at (bits_of 8 y) (bits_of_octets ys) 8 (length_bits_of 8 y)))

weight_append : (xs ys : List Bool) → weight (xs ++ ys) ≡ weight xs + weight ys
unfolding weight
weight_append [] ys = omega arith
weight_append (x ∷ xs) ys = omega (arith, weight_append xs ys)

-- ---- the difference of two bodies of equal length
module _ (a b : List ℕ) (lengths : length a ≡ length b) where
  unfoldable pub difference : List Bool
  difference = sum (bits_of_octets a) (bits_of_octets b)

  as_long : length (bits_of_octets a) ≡ length (bits_of_octets b)
  as_long = length_bits a ∙ ap (λ (n : ℕ). 8 * n) lengths ∙ sym (length_bits b)

  difference_length : length difference ≡ 8 * length a
  unfolding difference
  difference_length = length_sum (bits_of_octets a) (bits_of_octets b) as_long ∙ length_bits a

  pub difference_at : (k : ℕ) → get_or difference k false ≡ differ_at a b k
  unfolding difference
  difference_at k = get_d_sum (bits_of_octets a) (bits_of_octets b) k as_long ∙ ap₂ xor (bits_at a k) (bits_at b k)

  -- equal checks: no remainder
  no_remainder : frame_check a ≡ frame_check b → remainder difference ≡ 0
  unfolding difference frame_check
  no_remainder e =
      divided_xor 0 0 (bits_of_octets a) (bits_of_octets b) (omega arith) (omega arith) as_long
      ∙ ap (λ (r : ℕ). bit_xor r (frame_check b)) e ∙ xor_self (frame_check b)

  count_below : (n : ℕ) → n ≤ length difference → differ_below a b n ≡ weight (take n difference)
  unfolding differ_below weight
  count_below zero h = refl
  count_below (suc n) h =
      ap₂ ◌+◌ (count_below n (omega arith)) (ap coefficient (sym (difference_at n)) ∙ omega arith)
      ∙ sym (weight_append (take n difference) (get_or difference n false ∷ []))
      ∙ ap weight (sym (take-suc difference n false h))

  pub count : differ_below a b (8 * length a) ≡ weight difference
  count =
      ap (differ_below a b) (sym difference_length)
      ∙ count_below (length difference) (omega arith)
      ∙ ap weight (take-length difference)

-- ---- two bodies that differ
module _ (a b : List ℕ) (t : TwoBodies a b) where
  d : List Bool
  d = difference a b t.lengths

  not_zeros : weight d ≡ 0 → ⊥
  unfolding d difference
  not_zeros w =
      t.differ
      (octets_of a b t.octets_a t.octets_b t.lengths (sum_same (bits_of_octets a) (bits_of_octets b) (as_long a b t.lengths) w))

  pub three_bits : 8 * length a ≤ order → AtMostThreeBits a b → frame_check a ≡ frame_check b → ⊥
  unfolding d
  three_bits l few e = go (weight d) refl
    where
      left : remainder d ≡ 0
      left = no_remainder a b t.lengths e

      go : (w : ℕ) → weight d ≡ w → ⊥
      go zero w = not_zeros w
      go (suc zero) w = omega (arith, even d left)
      go (suc (suc zero)) w = two d (omega (arith, difference_length a b t.lengths)) w left
      go (suc (suc (suc n))) w = omega (arith, even d left, count a b t.lengths)

  pub within_16 : Within16Bits a b → frame_check a ≡ frame_check b → ⊥
  unfolding d
  within_16 near e =
      not_zeros
      (zeros_weight d
      (span d
      (λ k l p q. near k l (sym (difference_at a b t.lengths k) ∙ p) (sym (difference_at a b t.lengths l) ∙ q))
      (no_remainder a b t.lengths e)))

  pub odd_bits : differ_below a b (8 * length a) % 2 ≡ 1 → frame_check a ≡ frame_check b → ⊥
  unfolding d
  odd_bits odd e = omega (arith, count a b t.lengths, even d (no_remainder a b t.lengths e))

pub strength : Strength
strength a b t least most so = ⊎_elim (three_bits a b t (omega arith)) (within_16 a b t) so

pub reach : Reach
reach = record { odd_bits = odd_bits; span = within_16; three_bits = λ a b t l. three_bits a b t (omega arith) }
