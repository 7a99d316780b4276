-- Message 11 as the octets of its C struct. Assumes nothing.
use Rattle.std.specs.Prelude.{[], ◌∷◌}
use Rattle.field_format.specs.Format.{unsigned, integer}
use Rattle.ucp_messages.specs.declared.GeometricAltitude.{GeometricAltitude}
use Rattle.ucp_messages.specs.GeometricAltitude11.{geometric_format}
use Rattle.c_lent.specs.Structs.{Struct, low}

-- offset 0: altitude, signed; 2: metrics
abbrev pub geometric_struct : Struct GeometricAltitude
geometric_struct = record {
  members =
      low 2 integer (λ g. g.altitude)
      ∷ low 2 unsigned (λ g. g.metrics)
      ∷ [];
  value = geometric_format.value;
}
