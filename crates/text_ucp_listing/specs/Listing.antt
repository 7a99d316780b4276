-- The text of a listing (document 01, "Frames to try", the line lister), as lists of character codes. Assumes nothing.
use Rattle.std.specs.Prelude.{List, [], ◌++◌, ℕ, ◌+◌, ◌%◌, ◌^◌, length}
use Rattle.ucp_frame.specs.Stretch.{Verdict, silent, refused, delivered}
use Rattle.ucp_frame.specs.Frame.{longest_body}
use Rattle.ucp_receiver.specs.declared.Counts.{Counts}
use Rattle.text_output.specs.declared.Printing.TheVariants.{Hex}
use Rattle.text_output.specs.Text.{codes, printed_octet, printed, natural}

-- ---- numbers

abbrev pub decimal : ℕ → List ℕ
decimal = natural

-- an octet in hexadecimal, with a space before it
abbrev pub hex_octet : ℕ → List ℕ
hex_octet = printed_octet Hex

abbrev pub hex_octets : List ℕ → List ℕ
hex_octets = printed Hex

-- ---- lines

abbrev pub newline : List ℕ
newline = codes "\n"

abbrev pub ok_word : List ℕ
ok_word = codes "ok "

abbrev pub no_word : List ℕ
no_word = codes "no "

-- a delivered body: its length, and each octet
unfoldable pub ok_line : List ℕ → List ℕ
ok_line body = ok_word ++ (decimal (length body) ++ (hex_octets body ++ newline))

-- a refusal, by its number
unfoldable pub no_line : ℕ → List ℕ
no_line number = no_word ++ (decimal number ++ newline)

-- the line of an answer; where there is none, nothing
abbrev pub answer_line : Verdict → List ℕ
answer_line silent = []
answer_line (refused number) = no_line number
answer_line (delivered body) = ok_line body

-- the longest body fits; its line has "ok 436", 3 octets for each of its octets, and a newline
abbrev pub body_room : ℕ
body_room = longest_body

abbrev pub longest_line : ℕ
longest_line = 1317

-- ---- the closing line

abbrev pub bytes_word : List ℕ
bytes_word = codes "bytes "

abbrev pub flags_word : List ℕ
flags_word = codes " flags "

abbrev pub delivered_word : List ℕ
delivered_word = codes " delivered "

abbrev pub refused_word : List ℕ
refused_word = codes " refused "

abbrev pub skipped_word : List ℕ
skipped_word = codes " skipped "

abbrev pub open_word : List ℕ
open_word = codes " open "

-- a count with its word
unfoldable pub counted : List ℕ → ℕ → List ℕ
counted word n = word ++ decimal n

-- the octets received, modulo 2^32
abbrev pub bytes_received : Counts → ℕ
bytes_received c = (c.flags + c.delivered + c.refused + c.skipped + c.unclosed) % 2 ^ 32

unfoldable pub closing_line : Counts → List ℕ
closing_line c =
    counted bytes_word (bytes_received c)
    ++ (counted flags_word c.flags
    ++ (counted delivered_word c.delivered
    ++ (counted refused_word c.refused
    ++ (counted skipped_word c.skipped
    ++ (counted open_word c.unclosed ++ newline)))))

-- six words and a newline have 49 octets, and each number at most 10 digits
abbrev pub longest_closing : ℕ
longest_closing = 109
