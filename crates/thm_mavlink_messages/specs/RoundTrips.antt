-- Both round trips, of the definitions that the contracts of the reader and the writers cite. Assumes nothing.
use Rattle.std.specs.Prelude.{◌≡◌, List, ◌++◌, ℕ, ◌≤◌, length, take, drop, Ok}
use Rattle.crc_polynomial.specs.Polynomial.{Octets}
use Rattle.field_format.specs.Format.{TypedAs}
use Rattle.output_writing.specs.Writing.{Written, Writing}
use Rattle.mavlink_frame.specs.declared.Header.{Header}
use Rattle.mavlink_messages.specs.Failures.{FailureAnswer}
use Rattle.mavlink_messages.specs.declared.Message.{Message}
use Rattle.mavlink_messages.specs.declared.Message.TheVariants.{DataStream, Static, Dynamic, Status, Traffic}
use Rattle.mavlink_messages.specs.Messages as read_as
use Rattle.mavlink_messages.specs.DataStream66.{data_stream_format}
use Rattle.mavlink_messages.specs.Static201.{static_format}
use Rattle.mavlink_messages.specs.Dynamic202.{dynamic_format}
use Rattle.mavlink_messages.specs.Status203.{status_format}
use Rattle.mavlink_messages.specs.Traffic246.{traffic_format}
use Rattle.mavlink_messages.specs.Messages.{failures_of, read_due, write_due, message_frame}

-- the fields are values of their types: as a running program's are, and antt's numbers need not be
abbrev pub MavlinkTyped : Message → Type 0
MavlinkTyped (DataStream d) = TypedAs data_stream_format d
MavlinkTyped (Static s) = TypedAs static_format s
MavlinkTyped (Dynamic d) = TypedAs dynamic_format d
MavlinkTyped (Status s) = TypedAs status_format s
MavlinkTyped (Traffic t) = TypedAs traffic_format t

-- every message that the reader gives is one
abbrev pub MavlinkReadIsTyped : Type 0
MavlinkReadIsTyped =
    (s : List ℕ) (h : Header) (used : ℕ) (m : Message) (f : FailureAnswer) → Octets s → read_due s ≡ read_as.means h used m f → MavlinkTyped m

-- ---- a written frame reads back equal, with anything behind it: the same kind, fields and header, and its own length
abbrev pub MavlinkReadsBack : Type 0
MavlinkReadsBack =
    (m : Message) (h : Header) (output after : List ℕ) (n : ℕ) → MavlinkTyped m
    → Writing (write_due m output) (message_frame m h) output (Ok n) after
    → read_due after ≡ read_as.means h n m (failures_of m)

-- ---- an accepted frame writes back to the same octets, wherever there is room for them
abbrev pub MavlinkWritesBack : Type 0
MavlinkWritesBack =
    (s : List ℕ) (h : Header) (used : ℕ) (m : Message) (f : FailureAnswer) → Octets s → read_due s ≡ read_as.means h used m f
    → (output after : List ℕ) (r : Written) → used ≤ length output
    → Writing (write_due m output) (message_frame m h) output r after
    → (r ≡ Ok used) × (after ≡ take used s ++ drop used output)
