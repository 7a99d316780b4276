-- Message 201, the static data of an aircraft (document 001, "Static Message"), 19 octets. Assumes nothing.
use Rattle.std.specs.Prelude.{[], ◌∷◌}
use Rattle.mavlink_messages.specs.Ranges.{static_fits}
use Rattle.field_format.specs.Format.{unsigned, part, Format, low, text, octet}
use Rattle.mavlink_messages.specs.declared.Static.{Static}

-- offset 0: ICAO address; 3: integrity; 4: stall speed; 6: callsign; 14: capability, where the callsign's 00 stands;
-- 15: emitter; 16: length and width; 17: lateral offset; 18: longitudinal offset
abbrev pub static_format : Format Static
static_format = record {
  head = [];
  items =
      low 3 part (λ s. s.icao)
      ∷ octet (λ s. s.integrity)
      ∷ low 2 unsigned (λ s. s.stall_speed)
      ∷ text (λ s. s.callsign)
      ∷ octet (λ s. s.capability)
      ∷ octet (λ s. s.emitter)
      ∷ octet (λ s. s.alw_encode)
      ∷ octet (λ s. s.gps_lat_offs)
      ∷ octet (λ s. s.gps_lon_offs)
      ∷ [];
  value = λ address integrity stall callsign capability emitter size lateral longitudinal. record {
    icao = address;
    integrity = integrity;
    stall_speed = stall;
    callsign = callsign;
    capability = capability;
    emitter = emitter;
    alw_encode = size;
    gps_lat_offs = lateral;
    gps_lon_offs = longitudinal;
  };
  ranges = λ s. static_fits s.icao s.callsign s.capability s.emitter s.alw_encode s.gps_lat_offs s.gps_lon_offs;
}
