-- Message 0, Heartbeat (document 01; GDL90 ICD): all bits carried as they are. Assumes nothing.
use Rattle.std.specs.Prelude.{true, [], ◌∷◌}
use Rattle.field_format.specs.Format.{unsigned, Format, high, low, octet, number}
use Rattle.ucp_messages.specs.declared.Heartbeat.{Heartbeat}

-- offset 0: ID; 1 and 2: status; 3: time stamp, low octet first; 5: message counts, high octet first
abbrev pub heartbeat_format : Format Heartbeat
heartbeat_format = record {
  head = 0 ∷ [];
  items =
      octet (λ h. h.status_1)
      ∷ octet (λ h. h.status_2)
      ∷ low 2 unsigned (λ h. h.time_stamp)
      ∷ high (number unsigned 16 (λ h. h.counts) ∷ [])
      ∷ [];
  value = λ first second stamp counts. record { status_1 = first; status_2 = second; time_stamp = stamp; counts = counts };
  ranges = λ h. true;
}
