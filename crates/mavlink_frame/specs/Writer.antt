-- What the writer of frames answers, and the frame that it writes. Assumes nothing.
use Rattle.std.specs.Prelude.{cond, List, [], ℕ, ◌+◌, eqb, length}
use Rattle.refusals.specs.Numbers as because
use Rattle.output_writing.specs.Writing.{WriterAnswer, refused, room_for}
use Rattle.mavlink_frame.specs.declared.Kind.{Kind}
use Rattle.mavlink_frame.specs.declared.Header.{Header}
use Rattle.mavlink_frame.specs.Frame.{KindAnswer, known, unknown, mavlink_kind, mavlink_frame}

-- 25 for an ID that no kind has, and for a payload that is not of the kind's length, then 8
unfoldable pub write_of : Kind → List ℕ → List ℕ → WriterAnswer
write_of k payload output = cond (eqb (length payload) k.length) (room_for (length payload + 8) output) (refused because.mavlink_field)

abbrev pub write_by : KindAnswer → List ℕ → List ℕ → WriterAnswer
write_by (known k) payload output = write_of k payload output
write_by unknown payload output = refused because.mavlink_field

abbrev pub frame_write_due : ℕ → List ℕ → List ℕ → WriterAnswer
frame_write_due id = write_by (mavlink_kind id)

-- the frame around a payload, and none where no kind has the ID
abbrev pub frame_by : KindAnswer → Header → List ℕ → List ℕ
frame_by (known k) h payload = mavlink_frame k h payload
frame_by unknown h payload = []

abbrev pub frame_of : ℕ → Header → List ℕ → List ℕ
frame_of id = frame_by (mavlink_kind id)
