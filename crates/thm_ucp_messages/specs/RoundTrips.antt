-- Both round trips of the UCP line's messages, over what a writer's call and a reader's call ensure: each written message reads back
-- equal, and each accepted one writes back to the same octets (the tender, demand 2). Assumes nothing.
use Rattle.std.specs.Prelude.{◌≡◌, List, ◌++◌, ℕ, ◌≤◌, length, take, drop}
use Rattle.crc_polynomial.specs.Polynomial.{Octets}
use Rattle.output_writing.specs.Writing.{Written, wrote, writer_answer}
use Rattle.ucp_answers.specs.Writes as Message
use Rattle.ucp_messages.specs.declared.Message.{Message}
use Rattle.ucp_messages.specs.declared.Message.TheVariants.{Uplink}
use Rattle.ucp_messages.specs.Messages.{Read, means, reader_answer, Reads, GivesPayload, message_fits, message_body}
use Rattle.thm_ucp_messages.specs.Typed.{MessageTyped}

-- a call to the writer: the message and the payload, the output as at entry, the answer, and the output as at return
abbrev pub WritesMessage : Message → List ℕ → List ℕ → Written → List ℕ → Type 0
WritesMessage m payload = Message.WritesBody (message_fits m payload) (message_body m payload)

-- the writer accepted a message, and the reader is given the octets written: it gives that message
abbrev pub MessageReadsBack : Type 0
MessageReadsBack =
    (m : Message) (payload output after : List ℕ) (w : Written) (octets : ℕ) (r : Read) → MessageTyped m
    → WritesMessage m payload output w after → writer_answer w ≡ wrote octets
    → Reads (take octets after) r → reader_answer r ≡ means m

-- an uplink's payload is no part of the message: a call of its own gives it
abbrev pub UplinkReadsBack : Type 0
UplinkReadsBack =
    (payload output after given : List ℕ) (w : Written) (octets : ℕ)
    → WritesMessage Uplink payload output w after → writer_answer w ≡ wrote octets
    → GivesPayload (take octets after) given → given ≡ payload

-- the reader gave a message of a body, and the writer is given that message, the body's payload and room: it writes the same octets
abbrev pub MessageWritesBack : Type 0
MessageWritesBack =
    (body payload output after : List ℕ) (m : Message) (r : Read) (w : Written) → Octets body
    → Reads body r → reader_answer r ≡ means m → GivesPayload body payload
    → length body ≤ length output → WritesMessage m payload output w after
    → (writer_answer w ≡ wrote (length body)) × (after ≡ body ++ drop (length body) output)
