-- What the frame writer answers (document 01, the table's rows 7 and 8). Assumes nothing.
use Rattle.std.specs.Prelude.{cond, ◌||◌, List, ℕ, eqb, ltb, length}
use Rattle.refusals.specs.Numbers as because
use Rattle.ucp_frame.specs.Frame.{frame, longest_body}
use Rattle.output_writing.specs.Writing.{WriterAnswer, refused, room_for}

-- the answer that is due: 7 for a body of 0 or more than 436 octets, then 8 for an output shorter than this very frame
unfoldable pub frame_due : List ℕ → List ℕ → WriterAnswer
frame_due body output =
    cond (eqb (length body) 0 || ltb longest_body (length body)) (refused because.body_length) (room_for (length (frame body)) output)
