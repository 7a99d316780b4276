-- What lies just past the strength (document 01, "Beliefs that the trade holds wrongly" and the pair under "Frames to try").
-- Assumes nothing.
use Rattle.std.specs.Prelude.{◌≡◌, List, [], ◌∷◌, ◌++◌, ℕ, ◌*◌, ◌<◌, length, replicate}
use Rattle.std.specs.Int.Bits.{bit_xor}
use Rattle.crc_gdl90.specs.Check.{frame_check}
use Rattle.crc_gdl90_strength.specs.BitNumbers.{differ_below, DifferWithin}

-- at 4096 octets the first bit and the last are the order of x apart: these two bodies differ in those two bits alone
abbrev pub far_apart : List ℕ
far_apart = 0x80 ∷ (replicate 4094 0 ++ (0x01 ∷ []))

abbrev pub all_zero : List ℕ
all_zero = replicate 4096 0

pub record TwoBitsUnseen : Type 0 where
  pub lengths : (length far_apart ≡ 4096) × (length all_zero ≡ 4096)
  pub bits : differ_below far_apart all_zero (8 * 4096) ≡ 2
  pub check : frame_check far_apart ≡ frame_check all_zero

-- four bits over 17 places: bodies 2C 02 2B and 2D 12 0A share check E7C5
abbrev pub one_body : List ℕ
one_body = 0x2C ∷ 0x02 ∷ 0x2B ∷ []

abbrev pub other_body : List ℕ
other_body = 0x2D ∷ 0x12 ∷ 0x0A ∷ []

pub record FourBitsUnseen : Type 0 where
  pub checks : (frame_check one_body ≡ 0xE7C5) × (frame_check other_body ≡ 0xE7C5)
  pub bits : differ_below one_body other_body 24 ≡ 4
  pub places : DifferWithin 16 one_body other_body
  pub not_fewer : DifferWithin 15 one_body other_body → ⊥

-- bit 0 of the last octet of a body is bit 0 of its check, so that both flipped go unseen
abbrev pub LastBit : Type 0
LastBit =
    (body : List ℕ) (octet : ℕ) → octet < 256
    → frame_check (body ++ (bit_xor octet 1 ∷ [])) ≡ bit_xor (frame_check (body ++ (octet ∷ []))) 1

-- the check does not guard the length: it starts at 0, so that octets 00 before a body leave it as it is
abbrev pub LeadingZero : Type 0
LeadingZero = (body : List ℕ) → frame_check (0 ∷ body) ≡ frame_check body
