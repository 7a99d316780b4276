-- The fields of message 246 as they are shown, in the order of its layout and in the units of document 001. Assumes nothing.
use Rattle.std.specs.Prelude.{cond, List, [], ◌∷◌, ◌++◌, ℕ, eqb, pos, Some}
use Rattle.field_layout.specs.Layout.{text_octets}
use Rattle.text_output.specs.declared.Scale.TheVariants.{Ones, Hundredths, Thousandths, TenMillionths}
use Rattle.text_fields.specs.declared.Unit.TheVariants.{Bare, Seconds, Metres, MetresPerSecond}
use Rattle.text_fields.specs.Fields.{Value, number, reading, squawk, hexadecimal, quoted, none, Labelled, ◌is◌}
use Rattle.mavlink_messages.specs.declared.Traffic.{Traffic}

-- 65535 is no code
abbrev pub squawk_or_none : ℕ → Value
squawk_or_none n = cond (eqb n 65535) none (squawk n)

abbrev pub traffic_fields : Traffic → List Labelled
traffic_fields t =
    "address" is hexadecimal 8 t.icao_address
    ∷ "latitude" is reading TenMillionths Bare (Some t.lat)
    ∷ "longitude" is reading TenMillionths Bare (Some t.lon)
    ∷ "altitude" is reading Thousandths Metres (Some t.altitude)
    ∷ "heading" is reading Hundredths Bare (Some (pos t.heading))
    ∷ "horizontal velocity" is reading Hundredths MetresPerSecond (Some (pos t.hor_velocity))
    ∷ "vertical velocity" is reading Hundredths MetresPerSecond (Some t.ver_velocity)
    ∷ "valid" is hexadecimal 4 t.valid_flags
    ∷ "squawk" is squawk_or_none t.squawk
    ∷ "altitude type" is number t.altitude_type
    ∷ "callsign" is quoted (text_octets t.callsign ++ t.callsign_ninth ∷ [])
    ∷ "emitter" is number t.emitter_type
    ∷ "age" is reading Ones Seconds (Some (pos t.tslc))
    ∷ []
