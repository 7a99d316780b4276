-- The ranges of coded fields (document 01, "Message kinds on the UCP line" and "MAVLink kinds"; of the squawk document 02, c, and of the
-- emitter e): each rule is named once, here. Assumes nothing.
use Rattle.std.specs.Prelude.{Bool, ◌&&◌, ℕ, ◌/◌, ◌%◌, leb}

-- the last decimal digit of a number is 0 to 7
abbrev ends_octal : ℕ → Bool
ends_octal number = leb (number % 10) 7

-- a Mode A code, four octal digits sent as a decimal number: at most 7777, and every decimal digit 0 to 7
unfoldable pub is_squawk : ℕ → Bool
is_squawk code =
    leb code 7777 && ends_octal (code / 1000) && ends_octal (code / 100) && ends_octal (code / 10) && ends_octal code

-- an emitter category: 0 to 21, of which 20 is a cluster obstacle and 21 a line obstacle (document 004)
unfoldable pub is_emitter : ℕ → Bool
is_emitter category = leb category 21

-- a code of the aircraft's length and width: 0 to 15
unfoldable pub is_size_code : ℕ → Bool
is_size_code code = leb code 15
