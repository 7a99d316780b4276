-- What sending a message answers, and what it leaves in the buffer that it is lent (document 01, the table's rows 7, 8 and
-- 13 and the paragraph below it). Assumes nothing.
use Rattle.std.specs.Prelude.{List, ℕ}
use Rattle.ucp_writer.specs.Sends.{SendsBody}
use Rattle.ucp_messages.specs.declared.Message.{Message}
use Rattle.ucp_messages.specs.Messages.{message_fits, message_body}
use Rattle.output_writing.specs.Writing.{Written}

-- one call, whole: the message, the payload and the buffer as at entry, the answer, and the buffer as at return
abbrev pub Sends : Message → List ℕ → List ℕ → Written → List ℕ → Type 0
Sends message payload = SendsBody (message_fits message payload) (message_body message payload)
