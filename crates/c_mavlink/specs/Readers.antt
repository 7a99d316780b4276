-- What the reader of one kind answers, and what it leaves in the two structs that it is lent (document 01, the table's rows 20 to
-- 25 and the paragraph below it). Assumes nothing.
use Rattle.std.specs.Prelude.{◌≡◌, Bool, cond, not, ◌&&◌, List, ℕ, eqb, leb, length, get_or}
use Rattle.refusals.specs.Numbers as because
use Rattle.mavlink_frame.specs.Reader as answered
use Rattle.mavlink_frame.specs.Frame.{start}
use Rattle.mavlink_frame.specs.Reader.{FrameAnswer, found}
use Rattle.mavlink_messages.specs.Messages.{MavlinkAnswer, refused, means, read_by}
use Rattle.c_lent.specs.Structs.{stored}
use Rattle.c_mavlink.specs.Structs.{header_struct, message_stored}

-- octets 0 to 5 are there, the first of them FE, and the last is not the kind's message ID
abbrev pub is_other : ℕ → List ℕ → Bool
is_other id s = leb 6 (length s) && (eqb (get_or s 0 0) start && not (eqb (get_or s 5 0) id))

-- as `found` and `read_due`, but at the test of the message ID 22 for another kind's too
unfoldable pub found_as : ℕ → List ℕ → FrameAnswer
found_as id s = cond (is_other id s) (answered.refused because.mavlink_unknown_id) (found s)

abbrev pub read_as : ℕ → List ℕ → MavlinkAnswer
read_as id s = read_by (found_as id s) s

-- the refusal's number; 0 where a message is read
abbrev pub read_number : MavlinkAnswer → ℕ
read_number (refused number) = number
read_number (means h used m f) = 0

-- what the struct for the header then holds, and that for the message: what it held, where the call is refused
abbrev pub header_left : List ℕ → MavlinkAnswer → List ℕ
header_left before (refused number) = before
header_left before (means h used m f) = stored header_struct h

abbrev pub message_left : List ℕ → MavlinkAnswer → List ℕ
message_left before (refused number) = before
message_left before (means h used m f) = message_stored m

-- one call, whole: what is due, and both structs as at entry; the answer, and both as at return
pub record ReadsMavlink (due : MavlinkAnswer) (header message : List ℕ) (answer : ℕ) (header_after message_after : List ℕ) : Type 0 where
  pub answers : answer ≡ read_number due
  pub leaves_header : header_after ≡ header_left header due
  pub leaves_message : message_after ≡ message_left message due
