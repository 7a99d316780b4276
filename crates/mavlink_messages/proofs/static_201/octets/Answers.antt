-- `mavlink_messages::static_201::octets` meets its contract: each number's octets are its run. Assumes nothing.
use Rattle.std.proofs.Common.{◌≡◌, arith, ap, ◌∙◌, [], ◌∷◌, take}
use Rattle.field_layout.specs.Layout.{low, run_octets, text_octets}
use Rattle.field_format.specs.Format.{body_of}
use Rattle.mavlink_messages.proofs.Octets.{low_2, low_3}
use Rattle.mavlink_messages.proofs.static_201.octets.Goals as goal

pub returns : goal.returns
unfolding body_of
returns c =
    let v = c.args.static_data in
    let icao : c.copy_from_slice.new.self ≡ run_octets (low 3) (v.icao ∷ []) = c.copy_from_slice.ensures.after ∙ ap (take 3) c.to_le_bytes-address.ensures ∙ low_3 v.icao c.requires in
    let stall_speed : c.copy_from_slice-2.new.self ≡ run_octets (low 2) (v.stall_speed ∷ []) = c.copy_from_slice-2.ensures.after ∙ c.to_le_bytes.ensures ∙ low_2 v.stall_speed (omega arith) in
    let callsign : c.copy_from_slice-3.new.self ≡ text_octets v.callsign = c.copy_from_slice-3.ensures.after ∙ c.text_octets.ensures in
    rw (icao, stall_speed, callsign)
