-- The fields of message 202 as they are shown, in the order of its layout: units and marks for unknown as document 001 has them,
-- north and east velocity in cm/s as document 01 decides. Assumes nothing.
use Rattle.std.specs.Prelude.{List, [], ◌∷◌, ℤ, pos}
use Rattle.text_output.specs.declared.Scale.TheVariants.{Ones, Hundredths, Thousandths, TenMillionths}
use Rattle.text_fields.specs.declared.Unit.TheVariants.{Bare, Seconds, Metres, MetresPerSecond}
use Rattle.text_fields.specs.Fields.{unless, Value, number, reading, squawk, hexadecimal, Labelled, ◌is◌}
use Rattle.mavlink_messages.specs.declared.Dynamic.{Dynamic}

-- the largest number is no data
abbrev pub degrees : ℤ → Value
degrees z = reading TenMillionths Bare (unless 2147483647 z)

abbrev pub dynamic_altitude : ℤ → Value
dynamic_altitude z = reading Thousandths Metres (unless 2147483647 z)

abbrev pub speed : ℤ → Value
speed z = reading Hundredths MetresPerSecond (unless 32767 z)

abbrev pub dynamic_fields : Dynamic → List Labelled
dynamic_fields d =
    "utc time" is reading Ones Seconds (unless 4294967295 (pos d.utc_time))
    ∷ "latitude" is degrees d.latitude
    ∷ "longitude" is degrees d.longitude
    ∷ "pressure altitude" is dynamic_altitude d.alt_pres
    ∷ "gnss altitude" is dynamic_altitude d.alt_gnss
    ∷ "horizontal accuracy" is reading Thousandths Metres (unless 4294967295 (pos d.acc_horiz))
    ∷ "vertical accuracy" is reading Hundredths Metres (unless 65535 (pos d.acc_vert))
    ∷ "velocity accuracy" is reading Thousandths MetresPerSecond (unless 65535 (pos d.acc_vel))
    ∷ "vertical speed" is speed d.vel_vert
    ∷ "north velocity" is speed d.ns_vog
    ∷ "east velocity" is speed d.ew_vog
    ∷ "state" is hexadecimal 4 d.state
    ∷ "squawk" is squawk d.squawk
    ∷ "fix" is number d.fix_type
    ∷ "satellites" is reading Ones Bare (unless 255 (pos d.num_sats))
    ∷ "emergency" is number d.em_status
    ∷ "control" is hexadecimal 2 d.control
    ∷ []
