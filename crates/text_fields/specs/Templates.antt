-- A template: the text of a message, with a code where a value stands. Assumes nothing.
--
-- A code is four octets. The first says which numbers its own is the next of: '%' natural ones, '&' signed ones of 16 bits, '$'
-- signed ones of 32. The second says what is shown; the third the scale, by its places behind the point, or how many
-- hexadecimal digits; the fourth the mark for no data, '.' where there is none. '@' is a code of one octet, for the octets that
-- go with the numbers, quoted.
use Prim.Native.String.{String}
use Rattle.std.specs.List.{position_or_len}
use Rattle.std.specs.Prelude.{Bool, cond, ◌&&◌, ◌||◌, List, [], ◌∷◌, ◌++◌, ℕ, zero, suc, ◌%◌, eqb, ℤ, pos, get_or, take, drop, Option, Some}
use Rattle.text_output.specs.declared.Scale.{Scale}
use Rattle.text_output.specs.declared.Scale.TheVariants.{Ones, Hundredths, Thousandths, TenMillionths}
use Rattle.text_output.specs.Text.{codes}
use Rattle.text_fields.specs.declared.Unit.{Unit}
use Rattle.text_fields.specs.declared.Unit.TheVariants.{Bare, Seconds, Knots, Metres, MetresPerSecond}
use Rattle.text_fields.specs.Fields.{unless, Value, number, reading, squawk, hexadecimal, quoted, truth, none, shown, report_altitude, rate, geometric_altitude, angle}

-- whether an octet is a character
abbrev pub is : String → ℕ → Bool
is c x = eqb x (get_or (codes c) 0 0)

-- ---- what the octets of a code mean

-- any other octet of a scale is for wholes
abbrev pub scale_of : ℕ → Scale
scale_of x = cond (is "2" x) Hundredths (cond (is "3" x) Thousandths (cond (is "7" x) TenMillionths Ones))

-- any other letter shows a bare number
abbrev pub unit_of : ℕ → Unit
unit_of x = cond (is "s" x) Seconds (cond (is "k" x) Knots (cond (is "m" x) Metres (cond (is "v" x) MetresPerSecond Bare)))

-- any other letter is for the largest number
abbrev pub mark_of : ℕ → ℕ
mark_of x = cond (is "b" x) 255 (cond (is "k" x) 4095 (cond (is "w" x) 65535 4294967295))

abbrev pub natural_reading : ℕ → ℕ → Option ℤ
natural_reading mark n = cond (is "." mark) (Some (pos n)) (unless (mark_of mark) (pos n))

abbrev pub short_reading : ℕ → ℤ → Option ℤ
short_reading mark z = cond (is "." mark) (Some z) (unless 32767 z)

abbrev pub long_reading : ℕ → ℤ → Option ℤ
long_reading mark z = cond (is "." mark) (Some z) (unless 2147483647 z)

-- a code of four digits; where 65535 is the mark, that is none
abbrev pub squawk_value : ℕ → ℕ → Value
squawk_value mark n = cond (is "w" mark && eqb n 65535) none (squawk n)

-- ---- the value of a code: 'n' a number, 'x' hexadecimal, 'q' a squawk, 'y' yes or no, and what messages 10, 11 and 20 mean by
-- an altitude, a rate, a geometric altitude and an angle; else a reading in a unit

abbrev pub natural_value : ℕ → ℕ → ℕ → ℕ → Value
natural_value what scale mark n =
    cond (is "n" what) (number n)
    (cond (is "x" what) (hexadecimal (scale % 16) n)
    (cond (is "q" what) (squawk_value mark n)
    (cond (is "y" what) (truth (eqb n 1))
    (cond (is "a" what) (report_altitude n)
    (reading (scale_of scale) (unit_of what) (natural_reading mark n))))))

abbrev pub short_value : ℕ → ℕ → ℕ → ℤ → Value
short_value what scale mark z =
    cond (is "r" what) (rate z)
    (cond (is "g" what) (geometric_altitude z)
    (reading (scale_of scale) (unit_of what) (short_reading mark z)))

abbrev pub long_value : ℕ → ℕ → ℕ → ℤ → Value
long_value what scale mark z = cond (is "a" what) (angle z) (reading (scale_of scale) (unit_of what) (long_reading mark z))

-- the value of the code that some octets begin with
abbrev pub natural_code : List ℕ → ℕ → Value
natural_code xs n = natural_value (get_or xs 1 0) (get_or xs 2 0) (get_or xs 3 0) n

abbrev pub short_code : List ℕ → ℤ → Value
short_code xs z = short_value (get_or xs 1 0) (get_or xs 2 0) (get_or xs 3 0) z

abbrev pub long_code : List ℕ → ℤ → Value
long_code xs z = long_value (get_or xs 1 0) (get_or xs 2 0) (get_or xs 3 0) z

-- ---- templates

-- '@' is for the octets, and any other octet stands for itself
abbrev pub plain_piece : ℕ → List ℕ → List ℕ
plain_piece x octets = cond (is "@" x) (shown (quoted octets)) (x ∷ [])

-- what the first octet of some stands for
abbrev pub piece : List ℕ → ℕ → ℤ → ℤ → List ℕ → List ℕ
piece xs n s l octets =
    cond (is "%" (get_or xs 0 0)) (shown (natural_code xs n))
    (cond (is "&" (get_or xs 0 0)) (shown (short_code xs s))
    (cond (is "$" (get_or xs 0 0)) (shown (long_code xs l))
    (plain_piece (get_or xs 0 0) octets)))

-- how many octets behind it are of its code
abbrev pub code_tail : ℕ → ℕ
code_tail x = cond (is "%" x) 3 (cond (is "&" x) 3 (cond (is "$" x) 3 0))

-- what is left of some numbers, where a code takes one
abbrev pub after_natural : Bool → List ℕ → List ℕ
after_natural b ns = cond b (drop 1 ns) ns

abbrev pub after_integer : Bool → List ℤ → List ℤ
after_integer b zs = cond b (drop 1 zs) zs

-- a template filled in, once some of its octets are passed over: each code takes the next number of its own kind
unfoldable pub filled : ℕ → List ℕ → List ℕ → List ℤ → List ℤ → List ℕ → List ℕ
filled skip [] ns ss ls octets = []
filled (suc skip) (x ∷ xs) ns ss ls octets = filled skip xs ns ss ls octets
filled zero (x ∷ xs) ns ss ls octets =
    piece (x ∷ xs) (get_or ns 0 0) (get_or ss 0 (pos 0)) (get_or ls 0 (pos 0)) octets
    ++ filled (code_tail x) xs (after_natural (is "%" x) ns) (after_integer (is "&" x) ss) (after_integer (is "$" x) ls) octets

-- ---- a template in pieces: a label, which stands for itself, then a code, and so on

-- whether a code begins with an octet
abbrev pub is_code : ℕ → Bool
is_code x = is "%" x || is "&" x || is "$" x || is "@" x

-- how many octets stand before the next code, or are left
abbrev pub label_length : List ℕ → ℕ
label_length xs = position_or_len is_code xs

abbrev pub label : List ℕ → List ℕ
label xs = take (label_length xs) xs

abbrev pub from_code : List ℕ → List ℕ
from_code xs = drop (label_length xs) xs
