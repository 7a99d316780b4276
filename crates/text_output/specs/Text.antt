-- How octets and numbers are written, as lists of character codes. Assumes nothing.
use Prim.Native.Char.{code}
use Prim.Native.String.{String, [] as none, ◌∷◌ as ◌then◌}
use Rattle.std.specs.Prelude.{Bool, true, false, cond, not, ◌&&◌, List, [], ◌∷◌, ◌++◌, ℕ, zero, suc, ◌+◌, ◌-◌, ◌/◌, ◌%◌, ◌^◌, eqb, leb, ltb, ℤ, pos, negsuc, nat_abs}
use Rattle.text_output.specs.declared.Printing.{Printing}
use Rattle.text_output.specs.declared.Printing.TheVariants.{Plain, Escaped, Hex}
use Rattle.text_output.specs.declared.Base.{Base}
use Rattle.text_output.specs.declared.Base.TheVariants.{Decimal, Hexadecimal}
use Rattle.text_output.specs.declared.Scale.{Scale}
use Rattle.text_output.specs.declared.Scale.TheVariants.{Ones, Hundredths, Thousandths, TenMillionths}

-- the characters of a text as their codes
abbrev pub codes : String → List ℕ
codes none = []
codes (c then cs) = code c ∷ codes cs

-- ---- octets

-- the code of a hexadecimal digit: '0' is 48, 'a' is 97
unfoldable pub hex_digit : ℕ → ℕ
hex_digit d = cond (ltb d 10) (48 + d) (97 + (d - 10))

abbrev pub hex_pair : ℕ → List ℕ
hex_pair x = hex_digit (x / 16) ∷ hex_digit (x % 16) ∷ []

-- 20 to 7E, and neither a quote nor a backslash
unfoldable pub is_plain : ℕ → Bool
is_plain x = leb 0x20 x && leb x 0x7E && not (eqb x 0x22) && not (eqb x 0x5C)

-- as it is, or \xNN
unfoldable pub backslashed : ℕ → List ℕ
backslashed x = cond (is_plain x) (x ∷ []) (codes "\\x" ++ hex_pair x)

abbrev pub printed_octet : Printing → ℕ → List ℕ
printed_octet Plain x = x ∷ []
printed_octet Escaped x = backslashed x
printed_octet Hex x = codes " " ++ hex_pair x

unfoldable pub printed : Printing → List ℕ → List ℕ
printed s [] = []
printed s (x ∷ xs) = printed_octet s x ++ printed s xs

-- ---- numbers

-- a number in a base, the most significant digit first, where `most` digits hold it: all of them where it is padded, else no
-- digit more than needed
unfoldable pub numeral : Bool → ℕ → ℕ → ℕ → List ℕ
numeral padded base zero n = []
numeral padded base (suc most) n =
    let more = numeral padded base most (n / base) ++ (hex_digit (n % base) ∷ []) in
    cond (not padded && ltb n base) (hex_digit n ∷ []) more

-- in decimal; 20 digits hold 64 bits
abbrev pub natural : ℕ → List ℕ
natural n = numeral false 10 20 n

abbrev pub radix : Base → ℕ
radix Decimal = 10
radix Hexadecimal = 16

-- so many digits
abbrev pub padded : Base → ℕ → ℕ → List ℕ
padded base digits n = numeral true (radix base) digits n

abbrev pub minus : ℤ → List ℕ
minus (pos n) = []
minus (negsuc n) = codes "-"

-- ---- numbers of small units, of which 10 ^ places make a whole

abbrev pub places : Scale → ℕ
places Ones = 0
places Hundredths = 2
places Thousandths = 3
places TenMillionths = 7

-- behind the point, and no point where there are no places
abbrev pub fraction : ℕ → ℕ → List ℕ
fraction zero n = []
fraction (suc more) n = codes "." ++ numeral true 10 (suc more) n

unfoldable pub fixed_point : Scale → ℤ → List ℕ
fixed_point s z =
    minus z ++ (natural (nat_abs z / 10 ^ places s) ++ fraction (places s) (nat_abs z % 10 ^ places s))
