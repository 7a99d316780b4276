-- Message 11, Ownship geometric altitude (document 01; 003, section 6.2.3). Assumes nothing.
use Rattle.std.specs.Prelude.{true, [], ◌∷◌}
use Rattle.field_format.specs.Format.{unsigned, integer, Format, high, number}
use Rattle.ucp_messages.specs.declared.GeometricAltitude.{GeometricAltitude}

-- offset 0: ID; 1: altitude, signed, 16 bits; 3: metrics, 16 bits
abbrev pub geometric_format : Format GeometricAltitude
geometric_format = record {
  head = 11 ∷ [];
  items =
      high (number integer 16 (λ g. g.altitude) ∷ [])
      ∷ high (number unsigned 16 (λ g. g.metrics) ∷ [])
      ∷ [];
  value = λ altitude metrics. record { altitude = altitude; metrics = metrics };
  ranges = λ g. true;
}
