-- A refusal in words (document 01, the table's rows that a reader can give). Assumes nothing.
use Prim.Native.String.{String}
use Rattle.std.specs.Prelude.{cond, List, [], ◌∷◌, ◌++◌, ℕ, eqb}
use Rattle.refusals.specs.Numbers as because
use Rattle.text_output.specs.Text.{codes, natural}

pub record Wording : Type 0 where
  pub number : ℕ
  pub words : List ℕ

infix 70 ◌says◌
abbrev pub ◌says◌ : ℕ → String → Wording
number says words = record { number = number; words = codes words }

-- the numbers below 20 are the UCP line's, the others MAVLink's
abbrev pub rows : List Wording
rows =
    because.bad_escape says " bad escape"
    ∷ because.escape_before_flag says " escape before the flag"
    ∷ because.too_long says " too long"
    ∷ because.too_short says " too short"
    ∷ because.wrong_check says " check wrong"
    ∷ because.room says " no room for the body"
    ∷ because.unknown_id says " unknown message"
    ∷ because.message_length says " wrong length"
    ∷ because.fixed says " wrong version, signature or subtype"
    ∷ because.field says " field outside its range"
    ∷ because.mavlink_short says " too few bytes"
    ∷ because.mavlink_start says " first byte not fe"
    ∷ because.mavlink_unknown_id says " unknown message"
    ∷ because.mavlink_length says " wrong length"
    ∷ because.mavlink_wrong_check says " check wrong"
    ∷ because.mavlink_field says " field outside its range"
    ∷ []

-- where no row has the number
abbrev pub no_row : List ℕ
no_row = codes " refused"

-- the words of the row that has a number
abbrev pub words_in : List Wording → ℕ → List ℕ
words_in [] n = no_row
words_in (r ∷ rs) n = cond (eqb n r.number) r.words (words_in rs n)

unfoldable pub reason : ℕ → List ℕ
reason = words_in rows

-- its number, and the words
unfoldable pub refusal : ℕ → List ℕ
refusal number = codes "no " ++ (natural number ++ reason number)
