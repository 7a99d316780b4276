-- What sending a message answers, and what it leaves in the buffer that it is lent (document 01, the table's rows 7, 8 and
-- 13 and the paragraph below it). Assumes nothing.
use Rattle.std.specs.Prelude.{Bool, cond, List, ℕ}
use Rattle.refusals.specs.Numbers as because
use Rattle.ucp_frame.specs.Frame.{frame}
use Rattle.ucp_writer.specs.Room.{frame_due}
use Rattle.output_writing.specs.Writing.{Written, WriterAnswer, refused, Writing}

-- the answer that is due: 13 for a field outside its range, then what the frame writer answers to the message's body
unfoldable pub send_due : Bool → List ℕ → List ℕ → WriterAnswer
send_due fits body buffer = cond fits (frame_due body buffer) (refused because.field)

-- one call, whole: whether the fields fit, their body, the buffer as at entry, the answer, and the buffer as at return
abbrev pub SendsBody : Bool → List ℕ → List ℕ → Written → List ℕ → Type 0
SendsBody fits body buffer = Writing (send_due fits body buffer) (frame body) buffer
