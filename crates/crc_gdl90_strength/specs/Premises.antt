-- Bodies that meet each premise of the strength, at its edge, and such as just don't: what is said of such bodies is said of some.
-- Assumes nothing.
use Rattle.std.specs.Prelude.{◌≡◌, true, List, [], ◌∷◌, ◌++◌, ℕ, length, replicate}
use Rattle.crc_polynomial.specs.Polynomial.{Octets}
use Rattle.crc_gdl90_strength.specs.BitNumbers.{differ_at, differ_below}
use Rattle.crc_gdl90_strength.specs.Strength.{TwoBodies, AtMostThreeBits, Within16Bits}

-- 436 octets, all 00 but the first two and the last two
abbrev pub longest_with : ℕ → ℕ → ℕ → ℕ → List ℕ
longest_with first second third last = first ∷ second ∷ (replicate 432 0 ++ (third ∷ last ∷ []))

abbrev pub longest_zero : List ℕ
longest_zero = longest_with 0x00 0x00 0x00 0x00

-- the first bit that differs, and the last
pub record DifferAtEnds (a b : List ℕ) (first last : ℕ) : Type 0 where
  pub at_first : differ_at a b first ≡ true
  pub at_last : differ_at a b last ≡ true

pub record PremisesMet : Type 0 where
  -- a body of one octet, and of 436
  pub shortest : TwoBodies (0x00 ∷ []) (0xE0 ∷ [])
  pub longest : TwoBodies longest_zero (longest_with 0x80 0x00 0x01 0x01)
  pub longest_length : length longest_zero ≡ 436
  -- three bits: of one octet, and as far apart as bodies have them
  pub three_in_one : AtMostThreeBits (0x00 ∷ []) (0xE0 ∷ [])
  pub three_of_one : differ_below (0x00 ∷ []) (0xE0 ∷ []) 8 ≡ 3
  pub three_far_apart : AtMostThreeBits longest_zero (longest_with 0x80 0x00 0x01 0x01)
  pub three_of_longest : differ_below longest_zero (longest_with 0x80 0x00 0x01 0x01) 3488 ≡ 3
  pub farthest : DifferAtEnds longest_zero (longest_with 0x80 0x00 0x01 0x01) 0 3487
  -- 16 places: all sixteen bits, the first and the last of sixteen at either end of a body, and across octets
  pub sixteen : Within16Bits (0x00 ∷ 0x00 ∷ []) (0xFF ∷ 0xFF ∷ [])
  pub sixteen_bits : differ_below (0x00 ∷ 0x00 ∷ []) (0xFF ∷ 0xFF ∷ []) 16 ≡ 16
  pub sixteen_first : Within16Bits longest_zero (longest_with 0x80 0x01 0x00 0x00)
  pub ends_first : DifferAtEnds longest_zero (longest_with 0x80 0x01 0x00 0x00) 0 15
  pub sixteen_last : Within16Bits longest_zero (longest_with 0x00 0x00 0x80 0x01)
  pub ends_last : DifferAtEnds longest_zero (longest_with 0x00 0x00 0x80 0x01) 3472 3487
  pub sixteen_across : Within16Bits (0x00 ∷ 0x00 ∷ 0x00 ∷ []) (0x10 ∷ 0x00 ∷ 0x20 ∷ [])
  pub ends_across : DifferAtEnds (0x00 ∷ 0x00 ∷ 0x00 ∷ []) (0x10 ∷ 0x00 ∷ 0x20 ∷ []) 3 18
  -- and just past each premise: one body twice, an octet more, a number that is no octet, four bits, 17 places
  pub not_same : TwoBodies (0x00 ∷ []) (0x00 ∷ []) → ⊥
  pub not_longer : TwoBodies (0x00 ∷ []) (0x00 ∷ 0x00 ∷ []) → ⊥
  pub not_octets : Octets (0x100 ∷ []) → ⊥
  pub not_four : AtMostThreeBits (0x00 ∷ []) (0xF0 ∷ []) → ⊥
  pub not_seventeen : Within16Bits (0x00 ∷ 0x00 ∷ 0x00 ∷ []) (0x10 ∷ 0x00 ∷ 0x10 ∷ []) → ⊥
