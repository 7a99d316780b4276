-- Bodies that meet the premises of how far the check reaches (`Reach`), past demand 3's 436 octets and three bits: an odd number of
-- bits that is not 1 or 3, and the longest bodies in which two bits are caught. Assumes nothing.
use Rattle.std.specs.Prelude.{◌≡◌, List, [], ◌∷◌, ◌++◌, ℕ, ◌*◌, length, replicate}
use Rattle.crc_gdl90.specs.Check.{frame_check}
use Rattle.crc_gdl90_strength.specs.BitNumbers.{differ_below}
use Rattle.crc_gdl90_strength.specs.Strength.{TwoBodies}
use Rattle.crc_gdl90_strength.specs.Limits.{TwoBitsUnseen, FourBitsUnseen}

-- all zero but the first octet and the last
abbrev pub zero_between : ℕ → ℕ → ℕ → List ℕ
zero_between first between last = first ∷ (replicate between 0 ++ (last ∷ []))

-- two bodies of as many octets that differ in as many bits, and whose checks differ
pub record CaughtApart (a b : List ℕ) (octets bits : ℕ) : Type 0 where
  pub bodies : TwoBodies a b
  pub long : length a ≡ octets
  pub apart : differ_below a b (8 * octets) ≡ bits
  pub caught : frame_check a ≡ frame_check b → ⊥

pub record ReachMet : Type 0 where
  -- five bits, at both ends of bodies of 4096 octets: an odd number, which no length hides
  pub odd_bits : CaughtApart (zero_between 0x00 4094 0x00) (zero_between 0xE0 4094 0x03) 4096 5
  -- an even number of bits is not always caught
  pub even_bits : FourBitsUnseen
  -- the first bit and the last of 4095 octets; at 4096 they go unseen
  pub two_bits : CaughtApart (zero_between 0x00 4093 0x00) (zero_between 0x80 4093 0x01) 4095 2
  pub one_octet_more : TwoBitsUnseen
