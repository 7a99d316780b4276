-- C structs, a header and a frame that meet what the round trips of the linked calls and the delivery suppose, and such as don't: a
-- premise that is read otherwise makes one of these fail. Assumes nothing.
use Rattle.std.specs.Prelude.{◌≡◌, Bool, true, false, List, [], ◌∷◌, ℕ, suc, length, replicate}
use Rattle.crc_polynomial.specs.Polynomial.{Octets}
use Rattle.refusals.specs.Numbers as because
use Rattle.field_format.specs.Format.{Format, fits, body_of}
use Rattle.mavlink_messages.specs.declared.Message.{Message}
use Rattle.mavlink_messages.specs.declared.Message.TheVariants.{DataStream, Static, Dynamic, Status, Traffic}
use Rattle.mavlink_messages.specs.Messages.{in_range}
use Rattle.ucp_messages.specs.Heartbeat0.{heartbeat_format}
use Rattle.ucp_messages.specs.Uplink7.{uplink_fits}
use Rattle.ucp_messages.specs.Report10.{report_format}
use Rattle.ucp_messages.specs.GeometricAltitude11.{geometric_format}
use Rattle.ucp_messages.specs.Request44.{request_format}
use Rattle.ucp_messages.specs.Control45.{control_format}
use Rattle.ucp_messages.specs.Initialization117.{initialization_format}
use Rattle.c_lent.specs.Structs.{Struct, struct_size, held}
use Rattle.c_lent.specs.Reads.{ReadsInto}
use Rattle.c_lent.specs.Writes.{WritesStructBody}
use Rattle.c_lent.specs.Sends.{SendsStruct}
use Rattle.c_ucp_heartbeat.specs.Struct.{heartbeat_struct}
use Rattle.c_ucp_report.specs.Struct.{report_struct}
use Rattle.c_ucp_geometric_altitude.specs.Struct.{geometric_struct}
use Rattle.c_ucp_request.specs.Struct.{request_struct}
use Rattle.c_ucp_control.specs.Struct.{control_struct}
use Rattle.c_ucp_initialization.specs.Struct.{initialization_struct}
use Rattle.c_mavlink.specs.Structs.{header_struct, data_stream_struct, static_struct, dynamic_struct, status_struct, traffic_struct}
use Rattle.c_mavlink.specs.Readers.{read_as, ReadsMavlink}
use Rattle.thm_kind_examples.specs.Octets.{with_octet}
use Rattle.thm_kind_examples.specs.Mavlink.{status_frame}
use Rattle.thm_c_examples.specs.Structs.{heartbeat_held, report_held, geometric_held, request_held, control_held, initialization_held, header_held, stream_held, static_held, dynamic_held, status_held, traffic_held}

-- octets of a struct, as many as it has, whose value fits, so that a writer and a send with room answer 0; and the reader accepts its
-- body and leaves these octets
pub record StructMet {A : Type 0} (f : Format A) (s : Struct A) (octets : List ℕ) : Type 0 where
  pub small : Octets octets
  pub size : length octets ≡ struct_size s
  pub fit : fits f (held s octets) ≡ true
  pub read : ReadsInto f s (body_of f (held s octets)) (replicate (struct_size s) 0xAA) 0 octets

abbrev pub StructUnfit : {A : Type 0} → Format A → Struct A → List ℕ → Type 0
StructUnfit f s octets = fits f (held s octets) ≡ false

-- the same of MAVLink's
pub record MavlinkStructMet {A : Type 0} (s : Struct A) (kind : A → Message) (octets : List ℕ) : Type 0 where
  pub small : Octets octets
  pub size : length octets ≡ struct_size s
  pub fit : in_range (kind (held s octets)) ≡ true

abbrev pub MavlinkStructUnfit : {A : Type 0} → Struct A → (A → Message) → List ℕ → Type 0
MavlinkStructUnfit s kind octets = in_range (kind (held s octets)) ≡ false

abbrev pub control_given : List ℕ
control_given = control_held true false true false true false

-- the low octet of a squawk whose high octet is 1E: 61 makes it 7777, 62 makes it 7778
abbrev pub with_squawk : ℕ → ℕ → List ℕ → List ℕ
with_squawk place octet octets = with_octet place octet (with_octet (suc place) 0x1E octets)

pub record StructPremises : Type 0 where
  -- ---- the UCP line: heartbeat, geometric altitude and request have a value that fits for all octets
  pub heartbeat : StructMet heartbeat_format heartbeat_struct heartbeat_held
  pub uplink_435 : uplink_fits (replicate 435 0) ≡ true
  pub uplink_434 : uplink_fits (replicate 434 0) ≡ false
  pub uplink_436 : uplink_fits (replicate 436 0) ≡ false
  pub ownship : StructMet (report_format 10) report_struct report_held
  pub traffic : StructMet (report_format 20) report_struct report_held
  pub alert_15 : StructMet (report_format 10) report_struct (with_octet 0 15 report_held)
  pub alert_16 : StructUnfit (report_format 10) report_struct (with_octet 0 16 report_held)
  pub geometric : StructMet geometric_format geometric_struct geometric_held
  pub request : StructMet request_format request_struct request_held
  pub squawk_7777 : StructMet control_format control_struct (with_squawk 12 0x61 control_given)
  pub squawk_7778 : StructUnfit control_format control_struct (with_squawk 12 0x62 control_given)
  pub emitter_21 : StructMet initialization_format initialization_struct (with_octet 8 21 initialization_held)
  pub emitter_22 : StructUnfit initialization_format initialization_struct (with_octet 8 22 initialization_held)
  -- a struct with an octet more, and a number that is no octet
  pub not_longer : StructMet request_format request_struct (0x2B ∷ 0x00 ∷ []) → ⊥
  pub not_octet : StructMet request_format request_struct (0x100 ∷ []) → ⊥
  -- a body written and a frame sent, 01's first frame, each in just its room; and an octet less
  pub written : WritesStructBody request_format (held request_struct request_held) (replicate 3 0xAA) (record { refusal = 0; length = 3 }) (0x2C ∷ 0x02 ∷ 0x2B ∷ [])
  pub sent : SendsStruct request_format (held request_struct request_held) (replicate 7 0xAA) (record { refusal = 0; length = 7 }) (0x7E ∷ 0x2C ∷ 0x02 ∷ 0x2B ∷ 0xC5 ∷ 0xE7 ∷ 0x7E ∷ [])
  pub not_written : WritesStructBody request_format (held request_struct request_held) (replicate 2 0xAA) (record { refusal = because.output_length; length = 0 }) (replicate 2 0xAA)
  pub not_sent : SendsStruct request_format (held request_struct request_held) (replicate 6 0xAA) (record { refusal = because.output_length; length = 0 }) (replicate 6 0xAA)
  -- ---- MAVLink
  pub header_small : Octets header_held
  pub header_size : length header_held ≡ struct_size header_struct
  pub stream : MavlinkStructMet data_stream_struct DataStream stream_held
  pub static_emitter_21 : MavlinkStructMet static_struct Static (with_octet 15 21 static_held)
  pub static_emitter_22 : MavlinkStructUnfit static_struct Static (with_octet 15 22 static_held)
  pub static_address : MavlinkStructUnfit static_struct Static (with_octet 3 1 static_held)
  pub dynamic_7777 : MavlinkStructMet dynamic_struct Dynamic (with_squawk 36 0x61 dynamic_held)
  pub dynamic_7778 : MavlinkStructUnfit dynamic_struct Dynamic (with_squawk 36 0x62 dynamic_held)
  pub status : MavlinkStructMet status_struct Status status_held
  pub traffic_7777 : MavlinkStructMet traffic_struct Traffic (with_squawk 24 0x61 traffic_held)
  pub traffic_7778 : MavlinkStructUnfit traffic_struct Traffic (with_squawk 24 0x62 traffic_held)
  -- a frame that its kind's reader accepts
  pub status_read : ReadsMavlink (read_as 203 status_frame) (replicate 3 0xAA) (replicate 1 0xAA) 0 header_held status_held
