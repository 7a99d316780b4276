-- How the readers of one kind stand to the reader of every kind, which the explainer and the demands speak of. Assumes nothing.
use Rattle.std.specs.Prelude.{◌≡◌, List, ℕ, get_or}
use Rattle.refusals.specs.Numbers as because
use Rattle.mavlink_frame.specs.declared.Header.{Header}
use Rattle.mavlink_messages.specs.declared.Message.{Message}
use Rattle.mavlink_messages.specs.Failures.{FailureAnswer}
use Rattle.mavlink_messages.specs.Messages.{refused, means, id_of, read_due}
use Rattle.mavlink_messages.specs.Refusals.{HasHeader}
use Rattle.c_mavlink.specs.Readers.{read_as}
use Rattle.c_mavlink.specs.Ids.{mavlink_id_due}

pub record OneKind : Type 0 where
  -- an input whose message ID is the kind's, and one that has no whole header, is read as the reader of every kind reads it
  pub own : (id : ℕ) (s : List ℕ) → get_or s 5 0 ≡ id → read_as id s ≡ read_due s
  pub no_header : (id : ℕ) (s : List ℕ) → (HasHeader s → ⊥) → read_as id s ≡ read_due s
  -- any other is refused with 22
  pub other : (id : ℕ) (s : List ℕ) → HasHeader s → (get_or s 5 0 ≡ id → ⊥) → read_as id s ≡ refused because.mavlink_unknown_id
  -- a message that the reader of every kind reads is read by its own kind's, which the call for the ID names, with the frame's octets
  pub named : (s : List ℕ) (h : Header) (used : ℕ) (m : Message) (f : FailureAnswer) → read_due s ≡ means h used m f
      → (read_as (id_of m) s ≡ means h used m f) × (mavlink_id_due s ≡ record { refusal = 0; id = id_of m; used = used })
