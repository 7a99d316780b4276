-- `mavlink_messages::traffic_246::octets` meets its contract: each number's octets are its run. Assumes nothing.
use Rattle.std.proofs.Common.{◌≡◌, arith, rules, ◌∙◌, [], ◌∷◌}
use Rattle.field_layout.specs.Layout.{low, run_octets, text_octets}
use Rattle.field_signed.specs.Signed.{complement}
use Rattle.field_format.specs.Format.{body_of}
use Rattle.mavlink_messages.proofs.Octets.{low_2, low_4, signed_2, signed_4}
use Rattle.mavlink_messages.proofs.traffic_246.octets.Goals as goal

pub returns : goal.returns
unfolding body_of
returns c =
    let v = c.args.traffic in
    let icao_address : c.copy_from_slice.new.self ≡ run_octets (low 4) (v.icao_address ∷ []) = c.copy_from_slice.ensures.after ∙ c.to_le_bytes.ensures ∙ low_4 v.icao_address (omega arith) in
    let lat : c.copy_from_slice-2.new.self ≡ run_octets (low 4) (complement 2147483648 v.lat ∷ []) = c.copy_from_slice-2.ensures.after ∙ c.to_le_bytes-2.ensures ∙ signed_4 v.lat (search rules) in
    let lon : c.copy_from_slice-3.new.self ≡ run_octets (low 4) (complement 2147483648 v.lon ∷ []) = c.copy_from_slice-3.ensures.after ∙ c.to_le_bytes-3.ensures ∙ signed_4 v.lon (search rules) in
    let altitude : c.copy_from_slice-4.new.self ≡ run_octets (low 4) (complement 2147483648 v.altitude ∷ []) = c.copy_from_slice-4.ensures.after ∙ c.to_le_bytes-4.ensures ∙ signed_4 v.altitude (search rules) in
    let heading : c.copy_from_slice-5.new.self ≡ run_octets (low 2) (v.heading ∷ []) = c.copy_from_slice-5.ensures.after ∙ c.to_le_bytes-5.ensures ∙ low_2 v.heading (omega arith) in
    let hor_velocity : c.copy_from_slice-6.new.self ≡ run_octets (low 2) (v.hor_velocity ∷ []) = c.copy_from_slice-6.ensures.after ∙ c.to_le_bytes-6.ensures ∙ low_2 v.hor_velocity (omega arith) in
    let ver_velocity : c.copy_from_slice-7.new.self ≡ run_octets (low 2) (complement 32768 v.ver_velocity ∷ []) = c.copy_from_slice-7.ensures.after ∙ c.to_le_bytes-7.ensures ∙ signed_2 v.ver_velocity (search rules) in
    let valid_flags : c.copy_from_slice-8.new.self ≡ run_octets (low 2) (v.valid_flags ∷ []) = c.copy_from_slice-8.ensures.after ∙ c.to_le_bytes-8.ensures ∙ low_2 v.valid_flags (omega arith) in
    let squawk : c.copy_from_slice-9.new.self ≡ run_octets (low 2) (v.squawk ∷ []) = c.copy_from_slice-9.ensures.after ∙ c.to_le_bytes-9.ensures ∙ low_2 v.squawk (omega arith) in
    let callsign : c.copy_from_slice-10.new.self ≡ text_octets v.callsign = c.copy_from_slice-10.ensures.after ∙ c.text_octets.ensures in
    rw (icao_address, lat, lon, altitude, heading, hor_velocity, ver_velocity, valid_flags, squawk, callsign)
