-- Message 117 as the octets of its C struct. Assumes nothing.
use Rattle.std.specs.Prelude.{[], ◌∷◌}
use Rattle.field_format.specs.Format.{unsigned}
use Rattle.ucp_messages.specs.declared.Initialization.{Initialization}
use Rattle.ucp_messages.specs.Initialization117.{initialization_format}
use Rattle.c_lent.specs.Structs.{Struct, low, text, padding, struct_octet}

-- offset 0: version; 1: padding, 3 octets; 4: address; 8: emitter; 9: callsign; 17: stall speed; 18: size; 19: lateral antenna
-- offset; 20: longitudinal; 21: padding, 3 octets
abbrev pub initialization_struct : Struct Initialization
initialization_struct = record {
  members =
      struct_octet (λ n. n.version)
      ∷ padding 3
      ∷ low 4 unsigned (λ n. n.address)
      ∷ struct_octet (λ n. n.emitter)
      ∷ text (λ n. n.callsign)
      ∷ struct_octet (λ n. n.stall_speed)
      ∷ struct_octet (λ n. n.size)
      ∷ struct_octet (λ n. n.lateral)
      ∷ struct_octet (λ n. n.longitudinal)
      ∷ padding 3
      ∷ [];
  value = initialization_format.value;
}
