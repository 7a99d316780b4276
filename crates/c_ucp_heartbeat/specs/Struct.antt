-- Message 0 as the octets of its C struct. Assumes nothing.
use Rattle.std.specs.Prelude.{[], ◌∷◌}
use Rattle.field_format.specs.Format.{unsigned}
use Rattle.ucp_messages.specs.declared.Heartbeat.{Heartbeat}
use Rattle.ucp_messages.specs.Heartbeat0.{heartbeat_format}
use Rattle.c_lent.specs.Structs.{Struct, low, struct_octet}

-- offset 0 and 1: status; 2: time stamp; 4: message counts
abbrev pub heartbeat_struct : Struct Heartbeat
heartbeat_struct = record {
  members =
      struct_octet (λ h. h.status_1)
      ∷ struct_octet (λ h. h.status_2)
      ∷ low 2 unsigned (λ h. h.time_stamp)
      ∷ low 2 unsigned (λ h. h.counts)
      ∷ [];
  value = heartbeat_format.value;
}
