-- The MAVLink messages, and the header of a frame, as the octets of their C structs. But for 201 the members are the payload's
-- fields in the payload's order; proofs/Agree.antt computes the offsets. Assumes nothing.
use Rattle.std.specs.Prelude.{List, [], ◌∷◌, ◌++◌, ℕ, ◌/◌}
use Rattle.field_format.specs.Format.{unsigned, Column, field, flag, letters, Of, Field, Item, high as high_item, low as low_item, text as text_item}
use Rattle.mavlink_frame.specs.declared.Header.{Header}
use Rattle.mavlink_messages.specs.declared.DataStream as data-stream-as
use Rattle.mavlink_messages.specs.declared.Static as static-as
use Rattle.mavlink_messages.specs.declared.Dynamic as dynamic-as
use Rattle.mavlink_messages.specs.declared.Status as status-as
use Rattle.mavlink_messages.specs.declared.Traffic as traffic-as
use Rattle.mavlink_messages.specs.declared.Message.{Message}
use Rattle.mavlink_messages.specs.declared.Message.TheVariants.{DataStream, Static, Dynamic, Status, Traffic}
use Rattle.mavlink_messages.specs.DataStream66.{data_stream_format}
use Rattle.mavlink_messages.specs.Static201.{static_format}
use Rattle.mavlink_messages.specs.Dynamic202.{dynamic_format}
use Rattle.mavlink_messages.specs.Status203.{status_format}
use Rattle.mavlink_messages.specs.Traffic246.{traffic_format}
use Rattle.c_lent.specs.Structs.{Struct, Member, bool, low, text, padding, struct_octet, stored}

-- offset 0: sequence; 1: system; 2: component
abbrev pub header_struct : Struct Header
header_struct = record {
  members =
      struct_octet (λ h. h.sequence)
      ∷ struct_octet (λ h. h.system)
      ∷ struct_octet (λ h. h.component)
      ∷ [];
  value = λ sequence system component. record { sequence = sequence; system = system; component = component };
}

-- ---- a struct that has a format's fields in the format's order

-- a field of whole octets
abbrev pub member_for : {A : Type 0} (c : Column) → (A → Of c) → Member A
member_for (field s w) get = low (w / 8) s get
member_for flag get = bool get
member_for letters get = text get

abbrev pub field_members : {A : Type 0} → List (Field A) → List (Member A)
field_members [] = []
field_members (f ∷ fs) = member_for f.column f.get ∷ field_members fs

abbrev pub members_of : {A : Type 0} → List (Item A) → List (Member A)
members_of [] = []
members_of (high_item fs ∷ is) = field_members fs ++ members_of is
members_of (low_item n s get ∷ is) = low n s get ∷ members_of is
members_of (text_item get ∷ is) = text get ∷ members_of is

-- 66, offset 0: rate; 2: target system; 3: target component; 4: stream; 5: start or stop
abbrev pub data_stream_struct : Struct data-stream-as.DataStream
data_stream_struct = record { members = members_of data_stream_format.items; value = data_stream_format.value }

-- 202, offset 0: UTC time; 4: latitude; 8: longitude; 12: pressure altitude; 16: GNSS altitude; 20: horizontal accuracy; 24:
-- vertical accuracy; 26: velocity accuracy; 28: vertical speed; 30: velocity north; 32: velocity east; 34: state; 36: squawk;
-- 38: fix; 39: satellites; 40: emergency; 41: control; 42: padding, 2 octets
abbrev pub dynamic_struct : Struct dynamic-as.Dynamic
dynamic_struct = record { members = members_of dynamic_format.items ++ padding 2 ∷ []; value = dynamic_format.value }

-- 203, offset 0: self-test status
abbrev pub status_struct : Struct status-as.Status
status_struct = record { members = members_of status_format.items; value = status_format.value }

-- 246, offset 0: ICAO address; 4: latitude; 8: longitude; 12: altitude; 16: heading; 18: horizontal velocity; 20: vertical velocity;
-- 22: valid fields; 24: squawk; 26: altitude type; 27: callsign; 35: its ninth character; 36: emitter; 37: time since last
-- communication; 38: padding, 2 octets
abbrev pub traffic_struct : Struct traffic-as.Traffic
traffic_struct = record { members = members_of traffic_format.items ++ padding 2 ∷ []; value = traffic_format.value }

-- ---- one that has not

-- 201, offset 0: ICAO address; 4: stall speed; 6: callsign; 14: capability; 15: emitter; 16: length and width; 17: lateral
-- offset; 18: longitudinal offset; 19: integrity, which the payload has at 3
abbrev pub static_struct : Struct static-as.Static
static_struct = record {
  members =
      low 4 unsigned (λ s. s.icao)
      ∷ low 2 unsigned (λ s. s.stall_speed)
      ∷ text (λ s. s.callsign)
      ∷ struct_octet (λ s. s.capability)
      ∷ struct_octet (λ s. s.emitter)
      ∷ struct_octet (λ s. s.alw_encode)
      ∷ struct_octet (λ s. s.gps_lat_offs)
      ∷ struct_octet (λ s. s.gps_lon_offs)
      ∷ struct_octet (λ s. s.integrity)
      ∷ [];
  value = λ address stall callsign capability emitter size lateral longitudinal integrity. static_format.value address integrity stall callsign capability emitter size lateral longitudinal;
}

-- the octets of the struct that holds a message
abbrev pub message_stored : Message → List ℕ
message_stored (DataStream d) = stored data_stream_struct d
message_stored (Static s) = stored static_struct s
message_stored (Dynamic d) = stored dynamic_struct d
message_stored (Status s) = stored status_struct s
message_stored (Traffic t) = stored traffic_struct t
