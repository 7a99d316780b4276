-- What the frame check sequence always catches (the tender, demand 3; document 01, "Demand 3 in exact terms").
-- Assumes nothing.
use Rattle.std.specs.Prelude.{◌≡◌, List, ◌⊎◌, ℕ, ◌*◌, ◌≤◌, length}
use Rattle.crc_polynomial.specs.Polynomial.{Octets}
use Rattle.crc_gdl90.specs.Check.{frame_check}
use Rattle.crc_gdl90_strength.specs.BitNumbers.{differ_below, DifferWithin}

-- two different bodies of equal length
pub record TwoBodies (a b : List ℕ) : Type 0 where
  pub octets_a : Octets a
  pub octets_b : Octets b
  pub lengths : length a ≡ length b
  pub differ : a ≡ b → ⊥

-- they differ in at most three bits
abbrev pub AtMostThreeBits : List ℕ → List ℕ → Type 0
AtMostThreeBits a b = differ_below a b (8 * length a) ≤ 3

-- all differing bits lie in 16 consecutive bits: the last is at most 15 above the first
abbrev pub Within16Bits : List ℕ → List ℕ → Type 0
Within16Bits a b = DifferWithin 15 a b

-- demand 3, the check: bodies of 1 to 436 octets that differ so have different checks
abbrev pub Strength : Type 0
Strength =
    (a b : List ℕ) → TwoBodies a b → 1 ≤ length a → length a ≤ 436 → AtMostThreeBits a b ⊎ Within16Bits a b
    → frame_check a ≡ frame_check b → ⊥
