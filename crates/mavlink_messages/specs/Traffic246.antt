-- Message 246, a report of traffic (document 001, "Traffic Report Message"), 38 octets. Assumes nothing.
use Rattle.std.specs.Prelude.{[], ◌∷◌}
use Rattle.mavlink_messages.specs.Ranges.{traffic_fits}
use Rattle.field_format.specs.Format.{unsigned, integer, Format, low, text, octet}
use Rattle.mavlink_messages.specs.declared.Traffic.{Traffic}

-- offset 0: ICAO address; 4: latitude, signed; 8: longitude, signed; 12: altitude, signed; 16: heading; 18:
-- horizontal velocity; 20: vertical velocity, signed; 22: valid fields; 24: squawk; 26: altitude type; 27: callsign;
-- 35: its ninth character; 36: emitter; 37: time since last communication
abbrev pub traffic_format : Format Traffic
traffic_format = record {
  head = [];
  items =
      low 4 unsigned (λ t. t.icao_address)
      ∷ low 4 integer (λ t. t.lat)
      ∷ low 4 integer (λ t. t.lon)
      ∷ low 4 integer (λ t. t.altitude)
      ∷ low 2 unsigned (λ t. t.heading)
      ∷ low 2 unsigned (λ t. t.hor_velocity)
      ∷ low 2 integer (λ t. t.ver_velocity)
      ∷ low 2 unsigned (λ t. t.valid_flags)
      ∷ low 2 unsigned (λ t. t.squawk)
      ∷ octet (λ t. t.altitude_type)
      ∷ text (λ t. t.callsign)
      ∷ octet (λ t. t.callsign_ninth)
      ∷ octet (λ t. t.emitter_type)
      ∷ octet (λ t. t.tslc)
      ∷ [];
  value = λ address latitude longitude altitude heading speed climb valid squawk datum callsign ninth emitter age. record {
    icao_address = address;
    lat = latitude;
    lon = longitude;
    altitude = altitude;
    heading = heading;
    hor_velocity = speed;
    ver_velocity = climb;
    valid_flags = valid;
    squawk = squawk;
    altitude_type = datum;
    callsign = callsign;
    callsign_ninth = ninth;
    emitter_type = emitter;
    tslc = age;
  };
  ranges = λ t. traffic_fits t.squawk;
}
