-- What a step of the listing's code does for one line. Assumes nothing.
use Rattle.std.specs.Prelude.{List, [], ℕ, ◌≤◌, length, take, None, Some, Ok, Err}
use Rattle.output_writing.specs.Puts.{Puts}
use Rattle.ucp_receiver.specs.Answers.{Answer, ReceiverAnswer, nothing, refusal, body}
use Rattle.text_ucp_listing.specs.Listing.{ok_line, no_line}

-- the line of an answer as the receiver gives it, a body by its length and where it stands
abbrev pub line_of_answer : ReceiverAnswer → List ℕ → List ℕ
line_of_answer nothing room = []
line_of_answer (refusal number) room = no_line number
line_of_answer (body octets) room = ok_line (take octets room)

-- a body that an answer gives is within the room
abbrev pub BodyWithin : Answer → ℕ → Type 0
BodyWithin None room = Unit
BodyWithin (Some (Err why)) room = Unit
BodyWithin (Some (Ok octets)) room = octets ≤ room

-- a line is put, and ends within the text
pub record PutsLine (before : List ℕ) (at : ℕ) (line : List ℕ) (next : ℕ) (after : List ℕ) : Type 0 where
  pub puts : Puts before at line next after
  pub within : next ≤ length before
