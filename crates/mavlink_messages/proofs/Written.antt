-- What is due of a writer: what the frame's writer answers for the message's octets, and that some answer says it. Assumes nothing.
use mathlib.Core.Path.{◌≡◌, refl}
use mathlib.Core.Bool.{Bool, true, false, cond}
use lib.Dec.{ltb}
use Rattle.std.proofs.Common.{Ok, Err}
use Rattle.refusals.specs.declared.Refusal.TheVariants.{MavlinkField, OutputLength}
use mathlib.Core.List.{List}
use Prim.Native.Nat.{ℕ, ◌+◌, ◌<◌}
use borrow.Author.Tests.{ltb-true}
use lib.ListN.{length}
use Rattle.field_format.specs.Format.{body_of}
use Rattle.output_writing.specs.Writing.{Written, WriterAnswer, refused, wrote, writer_answer, room_for, Writing}
use Rattle.mavlink_messages.specs.Ranges.{static_fits}
use Rattle.mavlink_frame.specs.declared.Header.{Header}
use Rattle.mavlink_frame.specs.Frame.{mavlink_kind}
use Rattle.mavlink_frame.specs.Writer.{write_of, frame_of}
use Rattle.mavlink_frame.specs.Writer as frame-writes
use Rattle.mavlink_messages.specs.declared.Static as static-as
use Rattle.mavlink_messages.specs.declared.Message.{Message}
use Rattle.mavlink_messages.specs.declared.Message.TheVariants.{DataStream, Static, Dynamic, Status, Traffic}
use Rattle.field_format.proofs.Conjunction.{both}
use Rattle.mavlink_messages.specs.Messages.{id_of, payload_of, in_range, write_due, message_frame}

-- each kind's octets are as many as the table says
pub due : (m : Message) (output : List ℕ) → frame-writes.frame_write_due (id_of m) (payload_of m) output ≡ room_for (length (payload_of m) + 8) output
unfolding mavlink_kind write_of body_of
due (DataStream d) output = refl
due (Static s) output = refl
due (Dynamic d) output = refl
due (Status s) output = refl
due (Traffic t) output = refl

-- a message that is of this kind
pub written : {message m : Message} (h : Header) {payload output : List ℕ} {r : Written} {after : List ℕ} → message ≡ m
    → in_range message ≡ true → payload ≡ payload_of m
    → Writing (frame-writes.frame_write_due (id_of m) payload output) (frame_of (id_of m) h payload) output r after
    → Writing (write_due message output) (message_frame message h) output r after
written {m = m} h {output = output} g e p w = rw (e, g) (rw (p, due m output) at w)

-- an address that is in range has 24 bits
pub address_fits : {m : Message} {s : static-as.Static} → m ≡ Static s → in_range m ≡ true → s.icao < 0x1000000
unfolding static_fits
address_fits {s = s} g e =
    ltb-true _ _ (both _ _ (both _ _ (both _ _ (both _ _ (both _ _ (both _ _ (rw g at e)).0).0).0).0).0).0

-- what is due of a writer is what some answer says
pub record Given (due : WriterAnswer) : Type 0 where
  pub answer : Written
  pub is : writer_answer answer ≡ due

pub given : (m : Message) (output : List ℕ) → Given (write_due m output)
given m output = by (in_range m) (ltb (length output) (length (payload_of m) + 8))
  where
    by : (fits short : Bool) → Given (cond fits (cond short (refused 8) (wrote (length (payload_of m) + 8))) (refused 25))
    by true true = record { answer = Err OutputLength; is = refl }
    by true false = record { answer = Ok (length (payload_of m) + 8); is = refl }
    by false short = record { answer = Err MavlinkField; is = refl }
