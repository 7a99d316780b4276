-- A report, message 10 or 20, as the octets of its C struct. Assumes nothing.
use Rattle.std.specs.Prelude.{[], ◌∷◌}
use Rattle.field_format.specs.Format.{unsigned, integer}
use Rattle.ucp_messages.specs.declared.Report.{Report}
use Rattle.ucp_messages.specs.Report10.{report_format}
use Rattle.c_lent.specs.Structs.{Struct, low, text, padding, struct_octet}

-- offset 0: alert; 1: address type; 2: padding, 2 octets; 4: address; 8: latitude; 12: longitude; 16: altitude; 18: miscellaneous;
-- 19: NIC; 20: NACp; 21: padding; 22: speed; 24: vertical rate; 26: track; 27: emitter; 28: callsign; 36: emergency; 37: spare;
-- 38: padding, 2 octets
abbrev pub report_struct : Struct Report
report_struct = record {
  members =
      struct_octet (λ r. r.alert)
      ∷ struct_octet (λ r. r.address_type)
      ∷ padding 2
      ∷ low 4 unsigned (λ r. r.address)
      ∷ low 4 integer (λ r. r.latitude)
      ∷ low 4 integer (λ r. r.longitude)
      ∷ low 2 unsigned (λ r. r.altitude)
      ∷ struct_octet (λ r. r.miscellaneous)
      ∷ struct_octet (λ r. r.nic)
      ∷ struct_octet (λ r. r.nacp)
      ∷ padding 1
      ∷ low 2 unsigned (λ r. r.speed)
      ∷ low 2 integer (λ r. r.vertical_rate)
      ∷ struct_octet (λ r. r.track)
      ∷ struct_octet (λ r. r.emitter)
      ∷ text (λ r. r.callsign)
      ∷ struct_octet (λ r. r.emergency)
      ∷ struct_octet (λ r. r.spare)
      ∷ padding 2
      ∷ [];
  value = (report_format 10).value;
}
