-- The frame check sequence of GDL90 (document 01, "Check and stuffing"). Assumes nothing.
use Rattle.std.specs.Prelude.{◌≡◌, false, List, [], ◌∷◌, ◌++◌, ℕ, ◌/◌, ◌%◌, ◌<◌, get_or, replicate}
use Rattle.crc_polynomial.specs.Polynomial.{bits_of_octets, bits_of, remainder}

-- the remainder of the body, read as one binary polynomial, the most significant bit of the first octet highest. It starts
-- at 0, is not inverted, and the body is not followed by 16 zero bits
unfoldable pub frame_check : List ℕ → ℕ
frame_check body = remainder (bits_of_octets body)

-- it is sent low octet first
abbrev pub frame_check_octets : List ℕ → List ℕ
frame_check_octets body = frame_check body % 256 ∷ frame_check body / 256 ∷ []

-- the rule of the table of 256 entries: the remainder of the octet followed by 16 zero bits
unfoldable pub table_entry : ℕ → ℕ
table_entry octet = remainder (bits_of 8 octet ++ replicate 16 false)

abbrev pub IsTable : List ℕ → Type 0
IsTable table = (octet : ℕ) → octet < 256 → get_or table octet 0 ≡ table_entry octet
