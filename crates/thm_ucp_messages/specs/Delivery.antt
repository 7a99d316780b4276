-- A message that is sent is delivered, and means the same, and each frame delivered writes back to the same octets (the tender,
-- demand 2), over the contracts of the sender, of the frame writer and of the receiver. `proofs/Delivery.antt` proves it. Assumes nothing.
use Rattle.std.specs.Prelude.{◌≡◌, List, ◌∷◌, ◌++◌, ℕ, ◌≤◌, length, take}
use Rattle.ucp_frame.specs.Frame.{frame, longest_body}
use Rattle.ucp_frame.specs.Stretch.{delivered}
use Rattle.thm_ucp_messages.specs.Typed.{MessageTyped}
use Rattle.thm_ucp_receiver.specs.Line.{Observed, up_to, Line}
use Rattle.thm_ucp_receiver.specs.Promises.{AnswersAs, EndsIn}
use Rattle.ucp_messages.specs.declared.Message.{Message}
use Rattle.ucp_messages.specs.Messages.{Read, message_body, means, reader_answer, Reads}
use Rattle.ucp_receiver.specs.Answers.{body, receiver_answer}
use Rattle.ucp_send.specs.Sends.{Sends}
use Rattle.ucp_writer.specs.Writes.{WritesFrame}
use Rattle.output_writing.specs.Writing.{Written, wrote, writer_answer}

-- where a line, whatever it brought before, ends in the octets that an accepted call to the sender wrote, and the room is 436
-- octets or more: the last call delivers the message's body, and a reader that is given it gives the message
abbrev pub SentIsDelivered : Type 0
SentIsDelivered =
    (m : Message) (payload buffer after : List ℕ) (r : Written) (octets : ℕ)
    → MessageTyped m → Sends m payload buffer r after → writer_answer r ≡ wrote octets
    → (before later : List Observed) (o : Observed) → Line (before ++ o ∷ later)
    → EndsIn (take octets after) (up_to before o) → longest_body ≤ length o.output
    → AnswersAs (delivered (message_body m payload)) o
    × ((given : Read) → Reads (take (length (message_body m payload)) o.output_then) given → reader_answer given ≡ means m)

-- where a call of a line delivers a body, and the frame writer is given that body: with room it accepts, and the octets that it then
-- writes are those that the line ended in
abbrev pub DeliveredWritesBack : Type 0
DeliveredWritesBack =
    (before after : List Observed) (o : Observed) (octets : ℕ) → Line (before ++ o ∷ after)
    → receiver_answer o.given.answer ≡ body octets
    → (output then : List ℕ) (w : Written) → WritesFrame (take octets o.output_then) output w then
    → (length (frame (take octets o.output_then)) ≤ length output → writer_answer w ≡ wrote (length (frame (take octets o.output_then))))
    × ((n : ℕ) → writer_answer w ≡ wrote n → EndsIn (take n then) (up_to before o))
