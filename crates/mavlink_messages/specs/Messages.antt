-- The five kinds together: what a reader answers, and what a writer answers and leaves (document 01, the table's rows 8 and 20
-- to 25 and the paragraph below it). Assumes nothing.
use Rattle.std.specs.Prelude.{Bool, true, false, cond, List, ℕ, ◌+◌, ◌-◌, eqb, length, Result, Ok, Err}
use Rattle.field_format.specs.Format.{body_of, value_in}
use Rattle.refusals.specs.Numbers as because
use Rattle.refusals.specs.Refusals.{refusal_number}
use Rattle.refusals.specs.declared.Refusal.{Refusal}
use Rattle.output_writing.specs.Writing as writing-as
use Rattle.output_writing.specs.Writing.{WriterAnswer, room_for}
use Rattle.mavlink_frame.specs.declared.Header.{Header}
use Rattle.mavlink_frame.specs.Frame.{KindAnswer, known, unknown, mavlink_kind}
use Rattle.mavlink_frame.specs.Reader as found_as
use Rattle.mavlink_frame.specs.Reader.{FrameAnswer, frame, payload_at, found}
use Rattle.mavlink_frame.specs.Writer.{frame_of}
use Rattle.mavlink_messages.specs.declared.Message.{Message}
use Rattle.mavlink_messages.specs.declared.Message.TheVariants.{DataStream, Static, Dynamic, Status, Traffic}
use Rattle.mavlink_messages.specs.declared.Framed.{Framed}
use Rattle.mavlink_messages.specs.DataStream66.{data_stream_format}
use Rattle.mavlink_messages.specs.Static201.{static_format}
use Rattle.mavlink_messages.specs.Dynamic202.{dynamic_format}
use Rattle.mavlink_messages.specs.Status203.{status_format}
use Rattle.mavlink_messages.specs.Traffic246.{traffic_format}
use Rattle.mavlink_messages.specs.Failures.{FailureAnswer, failure_answer, failures_in, no_failures}

abbrev pub id_of : Message → ℕ
id_of (DataStream d) = 66
id_of (Static s) = 201
id_of (Dynamic d) = 202
id_of (Status s) = 203
id_of (Traffic t) = 246

abbrev pub payload_of : Message → List ℕ
payload_of (DataStream d) = body_of data_stream_format d
payload_of (Static s) = body_of static_format s
payload_of (Dynamic d) = body_of dynamic_format d
payload_of (Status s) = body_of status_format s
payload_of (Traffic t) = body_of traffic_format t

abbrev pub in_range : Message → Bool
in_range (DataStream d) = true
in_range (Static s) = static_format.ranges s
in_range (Dynamic d) = dynamic_format.ranges d
in_range (Status s) = true
in_range (Traffic t) = traffic_format.ranges t

-- the failures that a message reports
abbrev pub failures_of : Message → FailureAnswer
failures_of (DataStream d) = no_failures
failures_of (Static s) = no_failures
failures_of (Dynamic d) = no_failures
failures_of (Status s) = failures_in s.status
failures_of (Traffic t) = no_failures

-- an answer in the paper's terms: a refusal's number, or the frame's header and number of octets, the message, and the failures
-- that it reports
pub data MavlinkAnswer : Type 0 where
  refused : ℕ → MavlinkAnswer
  means : Header → ℕ → Message → FailureAnswer → MavlinkAnswer

-- a reader's answer: the message in its frame, or why it was refused
abbrev pub MavlinkRead : Type 0
MavlinkRead = Result Framed Refusal

-- the paper's number and values of each case
abbrev pub mavlink_answer : MavlinkRead → MavlinkAnswer
mavlink_answer (Err refusal) = refused (refusal_number refusal)
mavlink_answer (Ok f) = means f.header f.used f.message (failure_answer f.failures)

-- ---- reading: 20 to 24 as the frame says, then 25
abbrev pub judged_by : Bool → Header → ℕ → Message → MavlinkAnswer
judged_by fits h used m = cond fits (means h used m (failures_of m)) (refused because.mavlink_field)

abbrev pub message_judged : Header → ℕ → Message → MavlinkAnswer
message_judged h used m = judged_by (in_range m) h used m

-- a payload by its message ID; the frame has refused an ID that no kind has
abbrev pub payload_read : ℕ → Header → ℕ → List ℕ → MavlinkAnswer
payload_read id h used p =
    cond (eqb id 66) (message_judged h used (DataStream (value_in data_stream_format p)))
    (cond (eqb id 201) (message_judged h used (Static (value_in static_format p)))
    (cond (eqb id 202) (message_judged h used (Dynamic (value_in dynamic_format p)))
    (cond (eqb id 203) (message_judged h used (Status (value_in status_format p)))
    (cond (eqb id 246) (message_judged h used (Traffic (value_in traffic_format p)))
    (refused because.mavlink_unknown_id)))))

abbrev pub read_by : FrameAnswer → List ℕ → MavlinkAnswer
read_by (found_as.refused number) s = refused number
read_by (frame id h used) s = payload_read id h used (payload_at (used - 8) s)

abbrev pub read_due : List ℕ → MavlinkAnswer
read_due s = read_by (found s) s

-- so many octets are as many as the ID's kind has in a payload
abbrev pub of_length : KindAnswer → ℕ → Bool
of_length (known k) n = eqb n k.length
of_length unknown n = false

abbrev pub of_its_kind : ℕ → ℕ → Bool
of_its_kind id = of_length (mavlink_kind id)

-- ---- writing: 25, then 8
abbrev pub write_due : Message → List ℕ → WriterAnswer
write_due m output = cond (in_range m) (room_for (length (payload_of m) + 8) output) (writing-as.refused because.mavlink_field)

abbrev pub message_frame : Message → Header → List ℕ
message_frame m h = frame_of (id_of m) h (payload_of m)
