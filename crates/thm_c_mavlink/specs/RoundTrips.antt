-- Each MAVLink message that a call for C wrote reads back equal, and each that it read writes back to the same octets (the tender,
-- demand 2), over what a writer's call and a reader's call ensure. Assumes nothing.
use Rattle.std.specs.Prelude.{◌≡◌, List, ◌++◌, ℕ, ◌≤◌, length, take, drop}
use Rattle.crc_polynomial.specs.Polynomial.{Octets}
use Rattle.output_writing.specs.declared.OstrogoszWritten.{OstrogoszWritten}
use Rattle.mavlink_messages.specs.declared.Message.{Message}
use Rattle.mavlink_messages.specs.declared.Message.TheVariants.{DataStream, Static, Dynamic, Status, Traffic}
use Rattle.c_lent.specs.Structs.{Struct, struct_size, stored, held}
use Rattle.c_mavlink.specs.Structs.{header_struct, data_stream_struct, static_struct, dynamic_struct, status_struct, traffic_struct}
use Rattle.c_mavlink.specs.Readers.{ReadsMavlink, read_as}
use Rattle.c_mavlink.specs.Ids.{mavlink_id_due}
use Rattle.c_mavlink.specs.Writers.{WritesMavlinkForC}

-- the writer accepted the message and the header that two structs hold, and the kind's reader is given the output, with anything behind
-- the frame: it answers 0, and its structs hold the same and no more, padding zero. (A struct's octets are octets, and as many as it has: as a
-- running program's are, and antt's numbers need not be.)
abbrev pub MavlinkStructReadsBack : {A : Type 0} → ℕ → Struct A → (A → Message) → Type 0
MavlinkStructReadsBack id s kind =
    (message header output after header_before message_before header_after message_after : List ℕ) (w : OstrogoszWritten) (r : ℕ)
    → Octets message → length message ≡ struct_size s
    → WritesMavlinkForC (kind (held s message)) (held header_struct header) output w after → w.refusal ≡ 0
    → ReadsMavlink (read_as id after) header_before message_before r header_after message_after
    → (r ≡ 0) × (header_after ≡ stored header_struct (held header_struct header)) × (message_after ≡ stored s (held s message))
    × (held s message_after ≡ held s message)
    × (Octets header → length header ≡ struct_size header_struct → held header_struct header_after ≡ held header_struct header)

-- the kind's reader accepted the frame at the start of an input, and the writer is given the structs that it left, and room for as many
-- octets as the call for the ID says: it writes the frame's octets
abbrev pub MavlinkStructWritesBack : {A : Type 0} → ℕ → Struct A → (A → Message) → Type 0
MavlinkStructWritesBack id s kind =
    (input header_before message_before header message output after : List ℕ) (w : OstrogoszWritten) → Octets input
    → ReadsMavlink (read_as id input) header_before message_before 0 header message → (mavlink_id_due input).used ≤ length output
    → WritesMavlinkForC (kind (held s message)) (held header_struct header) output w after
    → (w ≡ record { refusal = 0; length = (mavlink_id_due input).used })
    × (after ≡ take (mavlink_id_due input).used input ++ drop (mavlink_id_due input).used output)

-- every kind of MAVLink
pub record LentMavlinkReadsBack : Type 0 where
  pub data_stream : MavlinkStructReadsBack 66 data_stream_struct DataStream
  pub static : MavlinkStructReadsBack 201 static_struct Static
  pub dynamic : MavlinkStructReadsBack 202 dynamic_struct Dynamic
  pub status : MavlinkStructReadsBack 203 status_struct Status
  pub traffic : MavlinkStructReadsBack 246 traffic_struct Traffic

pub record LentMavlinkWritesBack : Type 0 where
  pub data_stream : MavlinkStructWritesBack 66 data_stream_struct DataStream
  pub static : MavlinkStructWritesBack 201 static_struct Static
  pub dynamic : MavlinkStructWritesBack 202 dynamic_struct Dynamic
  pub status : MavlinkStructWritesBack 203 status_struct Status
  pub traffic : MavlinkStructWritesBack 246 traffic_struct Traffic
