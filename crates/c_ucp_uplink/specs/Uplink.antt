-- Message 7 through octets that are lent: the payload is all that it carries. Assumes nothing.
use Rattle.std.specs.Prelude.{List, ℕ, drop}
use Rattle.output_writing.specs.declared.OstrogoszWritten.{OstrogoszWritten}
use Rattle.output_writing.specs.Writing.{WritingNumbers}
use Rattle.ucp_frame.specs.Frame.{frame}
use Rattle.ucp_writer.specs.Sends.{send_due}
use Rattle.ucp_answers.specs.Writes.{body_due}
use Rattle.ucp_messages.specs.Uplink7.{uplink_refusal, uplink_fits, uplink_body}
use Rattle.c_lent.specs.Reads.{refusal_as, FillsStruct}

-- one reader's call, whole: the body, the payload as it was lent, the answer, and the payload as at return
abbrev pub ReadsUplink : List ℕ → List ℕ → ℕ → List ℕ → Type 0
ReadsUplink body = FillsStruct (refusal_as 7 body (uplink_refusal body)) (drop 1 body)

-- one writer's call, whole: the payload, the output as at entry, what is given back, and the output as at return
abbrev pub WritesUplink : List ℕ → List ℕ → OstrogoszWritten → List ℕ → Type 0
WritesUplink payload output = WritingNumbers (body_due (uplink_fits payload) (uplink_body payload) output) (uplink_body payload) output

-- the same of a send: the frame in the buffer
abbrev pub SendsUplink : List ℕ → List ℕ → OstrogoszWritten → List ℕ → Type 0
SendsUplink payload buffer = WritingNumbers (send_due (uplink_fits payload) (uplink_body payload) buffer) (frame (uplink_body payload)) buffer
