-- The fields of messages 10, 11 and 20 as they are shown, in the order of their definition. Assumes nothing.
use Rattle.std.specs.Prelude.{List, [], ◌∷◌, ℕ, ◌*◌, pos}
use Rattle.text_output.specs.declared.Scale.TheVariants.{Ones}
use Rattle.text_fields.specs.declared.Unit.TheVariants.{Knots}
use Rattle.text_fields.specs.Fields.{unless, Value, number, reading, hexadecimal, quoted_text, report_altitude, rate, geometric_altitude, angle, Labelled, ◌is◌}
use Rattle.ucp_messages.specs.declared.Report.{Report}
use Rattle.ucp_messages.specs.declared.GeometricAltitude.{GeometricAltitude}

-- ---- raw numbers

-- 360 degrees in 2^8 steps are 180 degrees in 2^7, so each is 2^16 steps of an angle
abbrev pub track : ℕ → Value
track n = angle (pos (n * 65536))

-- FFF is no data (GDL90 public ICD, horizontal velocity); a stall speed's octet can't hold it
abbrev pub knots : ℕ → Value
knots n = reading Ones Knots (unless 4095 (pos n))

-- ---- the fields of each kind

abbrev pub report_fields : Report → List Labelled
report_fields r =
    "alert" is number r.alert
    ∷ "address type" is number r.address_type
    ∷ "address" is hexadecimal 6 r.address
    ∷ "latitude" is angle r.latitude
    ∷ "longitude" is angle r.longitude
    ∷ "altitude" is report_altitude r.altitude
    ∷ "miscellaneous" is number r.miscellaneous
    ∷ "nic" is number r.nic
    ∷ "nacp" is number r.nacp
    ∷ "speed" is knots r.speed
    ∷ "vertical rate" is rate r.vertical_rate
    ∷ "track" is track r.track
    ∷ "emitter" is number r.emitter
    ∷ "callsign" is quoted_text r.callsign
    ∷ "emergency" is number r.emergency
    ∷ "spare" is number r.spare
    ∷ []

abbrev pub geometric_fields : GeometricAltitude → List Labelled
geometric_fields g =
    "altitude" is geometric_altitude g.altitude ∷ "metrics" is hexadecimal 4 g.metrics ∷ []
