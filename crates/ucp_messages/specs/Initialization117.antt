-- Message 117, Initialization (document 000, "Initialization Message"). Assumes nothing.
use Rattle.std.specs.Prelude.{◌&&◌, [], ◌∷◌}
use Rattle.field_codes.specs.Codes.{is_emitter, is_size_code}
use Rattle.field_texts.specs.Text.{is_spaced}
use Rattle.field_layout.specs.Layout.{text_octets}
use Rattle.field_format.specs.Format.{part, Format, high, low, text, octet, bits}
use Rattle.ucp_messages.specs.declared.Initialization.{Initialization}

-- offset 0: ID; 1: signature; 2: subtype; 3: version; 4: address, 24 bits; 7: emitter; 8: callsign; 16: stall speed;
-- 17: size; 18: antenna offset, lateral in the top 3 bits and longitudinal in the bottom 5
abbrev pub initialization_format : Format Initialization
initialization_format = record {
  head = 117 ∷ 65 ∷ 1 ∷ [];
  items =
      octet (λ n. n.version)
      ∷ low 3 part (λ n. n.address)
      ∷ octet (λ n. n.emitter)
      ∷ text (λ n. n.callsign)
      ∷ octet (λ n. n.stall_speed)
      ∷ octet (λ n. n.size)
      ∷ high
      (bits 3 (λ n. n.lateral)
      ∷ bits 5 (λ n. n.longitudinal)
      ∷ [])
      ∷ [];
  value = λ version address emitter callsign stall size lateral longitudinal. record {
    version = version;
    address = address;
    emitter = emitter;
    callsign = callsign;
    stall_speed = stall;
    size = size;
    lateral = lateral;
    longitudinal = longitudinal;
  };
  ranges = λ n. is_emitter n.emitter && is_spaced (text_octets n.callsign) && is_size_code n.size;
}
