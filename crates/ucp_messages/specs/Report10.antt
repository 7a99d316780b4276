-- Messages 10 and 20, Ownship and Traffic report (document 01; 003, section 6.2.2). Assumes nothing.
use Rattle.std.specs.Prelude.{true, [], ◌∷◌, ℕ}
use Rattle.field_format.specs.Format.{unsigned, integer_part, Format, high, text, octet, number, bits}
use Rattle.ucp_messages.specs.declared.Report.{Report}

-- offset 0: ID; 1: alert, address type; 2: address; 5: latitude, signed; 8: longitude, signed; 11: altitude,
-- miscellaneous; 13: NIC, NACp; 14: speed, vertical rate, signed, track; 18: emitter; 19: callsign; 27: emergency, spare
abbrev pub report_format : ℕ → Format Report
report_format id = record {
  head = id ∷ [];
  items =
      high
      (bits 4 (λ r. r.alert)
      ∷ bits 4 (λ r. r.address_type)
      ∷ [])
      ∷ high (bits 24 (λ r. r.address) ∷ [])
      ∷ high (number integer_part 24 (λ r. r.latitude) ∷ [])
      ∷ high (number integer_part 24 (λ r. r.longitude) ∷ [])
      ∷ high
      (bits 12 (λ r. r.altitude)
      ∷ bits 4 (λ r. r.miscellaneous)
      ∷ [])
      ∷ high
      (bits 4 (λ r. r.nic)
      ∷ bits 4 (λ r. r.nacp)
      ∷ [])
      ∷ high
      (bits 12 (λ r. r.speed)
      ∷ number integer_part 12 (λ r. r.vertical_rate)
      ∷ number unsigned 8 (λ r. r.track)
      ∷ [])
      ∷ octet (λ r. r.emitter)
      ∷ text (λ r. r.callsign)
      ∷ high
      (bits 4 (λ r. r.emergency)
      ∷ bits 4 (λ r. r.spare)
      ∷ [])
      ∷ [];
  value = λ alert kind address latitude longitude altitude miscellaneous nic nacp speed rate track emitter callsign emergency spare. record {
    alert = alert;
    address_type = kind;
    address = address;
    latitude = latitude;
    longitude = longitude;
    altitude = altitude;
    miscellaneous = miscellaneous;
    nic = nic;
    nacp = nacp;
    speed = speed;
    vertical_rate = rate;
    track = track;
    emitter = emitter;
    callsign = callsign;
    emergency = emergency;
    spare = spare;
  };
  ranges = λ r. true;
}
