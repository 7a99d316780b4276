-- How far the strength really reaches (document 01, "Beliefs that the trade holds wrongly"). Assumes nothing.
use Rattle.std.specs.Prelude.{◌≡◌, List, ℕ, ◌*◌, ◌%◌, ◌≤◌, length}
use Rattle.crc_gdl90.specs.Check.{frame_check}
use Rattle.crc_gdl90_strength.specs.BitNumbers.{differ_below}
use Rattle.crc_gdl90_strength.specs.Strength.{TwoBodies, AtMostThreeBits, Within16Bits}

-- the 16 consecutive bits, and any odd number of bits, are caught in bodies of any length, up to three bits in bodies of up to
-- 4095 octets
pub record Reach : Type 0 where
  pub odd_bits : (a b : List ℕ) → TwoBodies a b → differ_below a b (8 * length a) % 2 ≡ 1 → frame_check a ≡ frame_check b → ⊥
  pub span : (a b : List ℕ) → TwoBodies a b → Within16Bits a b → frame_check a ≡ frame_check b → ⊥
  pub three_bits : (a b : List ℕ) → TwoBodies a b → length a ≤ 4095 → AtMostThreeBits a b → frame_check a ≡ frame_check b → ⊥
