-- Message 45, Control version 1 (document 003, section 6.2.5.1). Assumes nothing.
use Rattle.std.specs.Prelude.{◌&&◌, [], ◌∷◌}
use Rattle.field_codes.specs.Codes.{is_squawk}
use Rattle.field_texts.specs.Text.{is_padded}
use Rattle.field_layout.specs.Layout.{text_octets}
use Rattle.field_format.specs.Format.{unsigned, integer, Format, high, low, text, octet, bits, bit}
use Rattle.ucp_messages.specs.declared.Control.{Control}

-- offset 0: ID; 1: version; 2, from bit 7: 1090ES enabled, modes S, C and A, ident, air-ground state, barometer checked;
-- 3: altitude; 7: squawk; 9: emergency; 10: flight identity
abbrev pub control_format : Format Control
control_format = record {
  head = 45 ∷ 1 ∷ [];
  items =
      high
      (bit (λ c. c.es_enabled)
      ∷ bit (λ c. c.mode_s)
      ∷ bit (λ c. c.mode_c)
      ∷ bit (λ c. c.mode_a)
      ∷ bit (λ c. c.ident)
      ∷ bits 2 (λ c. c.air_ground)
      ∷ bit (λ c. c.baro_checked)
      ∷ [])
      ∷ low 4 integer (λ c. c.altitude)
      ∷ low 2 unsigned (λ c. c.squawk)
      ∷ octet (λ c. c.emergency)
      ∷ text (λ c. c.identity)
      ∷ [];
  value = λ es s c a ident air_or_ground baro altitude squawk emergency identity. record {
    es_enabled = es;
    mode_s = s;
    mode_c = c;
    mode_a = a;
    ident = ident;
    air_ground = air_or_ground;
    baro_checked = baro;
    altitude = altitude;
    squawk = squawk;
    emergency = emergency;
    identity = identity;
  };
  ranges = λ c. is_squawk c.squawk && is_padded (text_octets c.identity);
}
