-- Message 45 as the octets of its C struct. Assumes nothing.
use Rattle.std.specs.Prelude.{[], ◌∷◌, ℕ, get_or}
use Rattle.field_format.specs.Format.{unsigned, integer, body_of}
use Rattle.ucp_messages.specs.declared.Control.{Control}
use Rattle.ucp_messages.specs.Control45.{control_format}
use Rattle.c_lent.specs.Structs.{Struct, bool, low, text, padding, struct_octet}

-- offsets 0 to 4: 1090ES enabled, modes S, C and A, ident; 5: air-ground state; 6: barometer checked; 7: padding; 8: altitude;
-- 12: squawk; 14: emergency; 15: flight identity; 23: padding
abbrev pub control_struct : Struct Control
control_struct = record {
  members =
      bool (λ c. c.es_enabled)
      ∷ bool (λ c. c.mode_s)
      ∷ bool (λ c. c.mode_c)
      ∷ bool (λ c. c.mode_a)
      ∷ bool (λ c. c.ident)
      ∷ struct_octet (λ c. c.air_ground)
      ∷ bool (λ c. c.baro_checked)
      ∷ padding 1
      ∷ low 4 integer (λ c. c.altitude)
      ∷ low 2 unsigned (λ c. c.squawk)
      ∷ struct_octet (λ c. c.emergency)
      ∷ text (λ c. c.identity)
      ∷ padding 1
      ∷ [];
  value = control_format.value;
}

-- the octet at 2 of the body, which no octet of the struct holds
abbrev pub control_state : Control → ℕ
control_state c = get_or (body_of control_format c) 2 0
