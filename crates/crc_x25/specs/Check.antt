-- The X.25 check of MAVLink (document 001, "CRC Code"; document 01, "MAVLink kinds"), by the long division that the frame check
-- of GDL90 stands on. Assumes nothing.
use Rattle.std.specs.Prelude.{Bool, false, List, [], ◌∷◌, ◌++◌, ℕ, zero, suc, ◌*◌, ◌/◌, ◌%◌}
use Rattle.std.specs.Int.Bits.{bit_xor}
use Rattle.crc_polynomial.specs.Polynomial.{odd, coefficient, step, polynomial}

-- the w lowest bits of n, least significant first
unfoldable pub bits_up : ℕ → ℕ → List Bool
bits_up zero n = []
bits_up (suc w) n = odd n ∷ bits_up w (n / 2)

-- the bits of a list of octets, in the order of the wire: first octet first, its least significant bit first
unfoldable pub wire_bits : List ℕ → List Bool
wire_bits [] = []
wire_bits (x ∷ xs) = bits_up 8 x ++ wire_bits xs

-- One bit: it is added to the register's coefficient of x^15, and the division goes on by one place.
unfoldable pub next : ℕ → Bool → ℕ
next r b = step (bit_xor r (coefficient b * 0x8000)) false

-- the register once all the bits are taken in
unfoldable pub register : ℕ → List Bool → ℕ
register r [] = r
register r (b ∷ bs) = register (next r b) bs

-- the 16 bits of a number in the other order
unfoldable pub mirrored : ℕ → ℕ
mirrored n = polynomial 0 (bits_up 16 n)

-- The register starts at FFFF. The check is not inverted, and has the coefficient of x^15 as its least significant bit.
unfoldable pub x25 : List ℕ → ℕ
x25 octets = mirrored (register 0xFFFF (wire_bits octets))

-- it is sent low octet first
abbrev pub x25_octets : List ℕ → List ℕ
x25_octets octets = x25 octets % 256 ∷ x25 octets / 256 ∷ []

-- the check of octets that follow others, whose check is given
unfoldable pub x25_from : ℕ → List ℕ → ℕ
x25_from check octets = mirrored (register (mirrored check) (wire_bits octets))
