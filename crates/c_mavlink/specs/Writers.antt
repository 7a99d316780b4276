-- What the writers for C do with a message: its frame into an output. Assumes nothing.
use Rattle.std.specs.Prelude.{List, ℕ}
use Rattle.output_writing.specs.declared.OstrogoszWritten.{OstrogoszWritten}
use Rattle.output_writing.specs.Writing.{Written, Writing, WritingNumbers}
use Rattle.mavlink_frame.specs.declared.Header.{Header}
use Rattle.mavlink_messages.specs.declared.Message.{Message}
use Rattle.mavlink_messages.specs.Messages.{write_due, message_frame}

-- one call, whole: the message, its header and the output as at entry, what is given back, and the output as at return
abbrev pub WritesMavlinkForC : Message → Header → List ℕ → OstrogoszWritten → List ℕ → Type 0
WritesMavlinkForC message header output = WritingNumbers (write_due message output) (message_frame message header) output

-- the same of the answer that is not yet in numbers
abbrev pub WritesMavlinkMessage : Message → Header → List ℕ → Written → List ℕ → Type 0
WritesMavlinkMessage message header output = Writing (write_due message output) (message_frame message header) output
