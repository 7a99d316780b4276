-- Bodies that meet each premise of the strength. Assumes nothing.
use mathlib.Core.Path.{◌≡◌, refl, ap, ◌∙◌}
use mathlib.Core.Bool.{Bool, true, false, xor, false≢true, ◌&&◌}
use mathlib.Core.List.{List, [], ◌∷◌, ◌++◌}
use Prim.Native.Nat.{ℕ, zero, suc, ◌+◌, ◌<◌, ◌≤◌}
use native.Mathlib.Omega.{arith}
use borrow.Author.Tests.{ltb-true}
use lib.Dec.{ltb}
use lib.ListN.{length, get_or, replicate}
use Rattle.crc_polynomial.specs.Polynomial.{Octets, bits_of, bits_of_octets}
use Rattle.crc_polynomial.proofs.Laws.{sum}
use Rattle.crc_gdl90_strength.specs.BitNumbers.{differ_below, DifferWithin}
use Rattle.crc_gdl90_strength.specs.Strength.{TwoBodies}
use Rattle.crc_gdl90_strength.specs.Premises.{longest_with, longest_zero, PremisesMet}
use Rattle.crc_gdl90_strength.proofs.Limits.{at_least}
use Rattle.crc_gdl90_strength.proofs.Shape.{weight}
use Rattle.crc_gdl90_strength.proofs.Caught.{difference, difference_at, count}

-- ---- octets, by computation
abbrev pub small : List ℕ → Bool
small [] = true
small (x ∷ xs) = ltb x 256 && small xs

both : (a b : Bool) → (a && b) ≡ true → (a ≡ true) × (b ≡ true)
both true b h = (refl, h)
both false b h = absurd (false≢true h)

pub octets : (xs : List ℕ) → small xs ≡ true → Octets xs
octets [] h i = omega arith
octets (x ∷ xs) h zero = ltb-true x 256 (both (ltb x 256) (small xs) h).0
octets (x ∷ xs) h (suc i) = octets xs (both (ltb x 256) (small xs) h).1 i

-- two bodies that have different octets at a place
pub bodies : (a b : List ℕ) (i : ℕ) → small a ≡ true → small b ≡ true → length a ≡ length b → get_or a i 0 < get_or b i 0 → TwoBodies a b
bodies a b i ha hb l h =
    record {
      octets_a = octets a ha;
      octets_b = octets b hb;
      lengths = l;
      differ = λ e. let z : get_or a i 0 ≡ get_or b i 0 = ap (λ (xs : List ℕ). get_or xs i 0) e in omega arith;
    }

-- ---- places
no_one : (n k : ℕ) → get_or (replicate n false) k false ≡ true → ⊥
no_one zero k e = false≢true e
no_one (suc n) zero e = false≢true e
no_one (suc n) (suc k) e = no_one n k e

before : (bs : List Bool) (n k : ℕ) → get_or (bs ++ replicate n false) k false ≡ true → k < length bs
before [] n k e = absurd (no_one n k e)
before (b ∷ bs) n zero e = omega arith
before (b ∷ bs) n (suc k) e = omega (arith, before bs n k e)

-- the bits that differ stand behind m that do not, and before n that do not, 16 or fewer in all
within : (a b : List ℕ) (l : length a ≡ length b) (m n : ℕ) (bs : List Bool) → difference a b l ≡ replicate m false ++ (bs ++ replicate n false)
    → difference a b l ≡ (replicate m false ++ bs) ++ replicate n false → length (replicate m false ++ bs) ≤ m + 16 → DifferWithin 15 a b
within a b l m n bs behind ahead few first last p q =
    let p' : get_or (difference a b l) first false ≡ true = difference_at a b l first ∙ p in
    let q' : get_or (difference a b l) last false ≡ true = difference_at a b l last ∙ q in
    let low : m ≤ first = at_least m (bs ++ replicate n false) first (rw behind at p') in
    let high : last < length (replicate m false ++ bs) = before (replicate m false ++ bs) n last (rw ahead at q') in
    omega arith

-- ---- the bodies
abbrev zero₁ : List ℕ
zero₁ = 0x00 ∷ []

abbrev zero₂ : List ℕ
zero₂ = 0x00 ∷ 0x00 ∷ []

abbrev zero₃ : List ℕ
zero₃ = 0x00 ∷ 0x00 ∷ 0x00 ∷ []

abbrev sixteen_ones : List Bool
sixteen_ones = replicate 16 true

-- a 1, 14 that are 0, a 1
abbrev outermost : List Bool
outermost = true ∷ (replicate 14 false ++ (true ∷ []))

three : differ_below longest_zero (longest_with 0x80 0x00 0x01 0x01) 3488 ≡ 3
unfolding difference bits_of_octets bits_of sum xor weight
three = count longest_zero (longest_with 0x80 0x00 0x01 0x01) refl ∙ refl

three_in_one : differ_below zero₁ (0xE0 ∷ []) 8 ≡ 3
unfolding differ_below xor
three_in_one = refl

four_in_one : differ_below zero₁ (0xF0 ∷ []) 8 ≡ 4
unfolding differ_below xor
four_in_one = refl

sixteen_bits : differ_below zero₂ (0xFF ∷ 0xFF ∷ []) 16 ≡ 16
unfolding differ_below xor
sixteen_bits = refl

pub premises_met : PremisesMet
unfolding difference bits_of_octets bits_of sum xor
premises_met =
    record {
      shortest = bodies zero₁ (0xE0 ∷ []) 0 refl refl refl (omega arith);
      longest = bodies longest_zero (longest_with 0x80 0x00 0x01 0x01) 0 refl refl refl (omega arith);
      longest_length = refl;
      three_in_one = omega (arith, three_in_one);
      three_of_one = three_in_one;
      three_far_apart = omega (arith, three);
      three_of_longest = three;
      farthest = record { at_first = refl; at_last = refl };
      sixteen = within zero₂ (0xFF ∷ 0xFF ∷ []) refl 0 0 sixteen_ones refl refl (omega arith);
      sixteen_bits = sixteen_bits;
      sixteen_first = within longest_zero (longest_with 0x80 0x01 0x00 0x00) refl 0 3472 outermost refl refl (omega arith);
      ends_first = record { at_first = refl; at_last = refl };
      sixteen_last = within longest_zero (longest_with 0x00 0x00 0x80 0x01) refl 3472 0 outermost refl refl (omega arith);
      ends_last = record { at_first = refl; at_last = refl };
      sixteen_across = within zero₃ (0x10 ∷ 0x00 ∷ 0x20 ∷ []) refl 3 5 outermost refl refl (omega arith);
      ends_across = record { at_first = refl; at_last = refl };
      not_same = λ t. t.differ refl;
      not_longer = λ t. let z : ◌≡◌ {A = ℕ} 1 2 = t.lengths in omega arith;
      not_octets = λ o. omega (arith, o 0);
      not_four = λ h. omega (arith, h, four_in_one);
      not_seventeen = λ h. omega (arith, h 3 19 refl refl);
    }
