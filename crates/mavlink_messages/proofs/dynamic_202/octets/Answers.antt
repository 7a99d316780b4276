-- `mavlink_messages::dynamic_202::octets` meets its contract: each number's octets are its run. Assumes nothing.
use Rattle.std.proofs.Common.{◌≡◌, arith, rules, ◌∙◌, [], ◌∷◌}
use Rattle.field_layout.specs.Layout.{low, run_octets}
use Rattle.field_signed.specs.Signed.{complement}
use Rattle.field_format.specs.Format.{body_of}
use Rattle.mavlink_messages.proofs.Octets.{low_2, low_4, signed_2, signed_4}
use Rattle.mavlink_messages.proofs.dynamic_202.octets.Goals as goal

pub returns : goal.returns
unfolding body_of
returns c =
    let v = c.args.dynamic in
    let utc_time : c.copy_from_slice.new.self ≡ run_octets (low 4) (v.utc_time ∷ []) = c.copy_from_slice.ensures.after ∙ c.to_le_bytes.ensures ∙ low_4 v.utc_time (omega arith) in
    let latitude : c.copy_from_slice-2.new.self ≡ run_octets (low 4) (complement 2147483648 v.latitude ∷ []) = c.copy_from_slice-2.ensures.after ∙ c.to_le_bytes-2.ensures ∙ signed_4 v.latitude (search rules) in
    let longitude : c.copy_from_slice-3.new.self ≡ run_octets (low 4) (complement 2147483648 v.longitude ∷ []) = c.copy_from_slice-3.ensures.after ∙ c.to_le_bytes-3.ensures ∙ signed_4 v.longitude (search rules) in
    let alt_pres : c.copy_from_slice-4.new.self ≡ run_octets (low 4) (complement 2147483648 v.alt_pres ∷ []) = c.copy_from_slice-4.ensures.after ∙ c.to_le_bytes-4.ensures ∙ signed_4 v.alt_pres (search rules) in
    let alt_gnss : c.copy_from_slice-5.new.self ≡ run_octets (low 4) (complement 2147483648 v.alt_gnss ∷ []) = c.copy_from_slice-5.ensures.after ∙ c.to_le_bytes-5.ensures ∙ signed_4 v.alt_gnss (search rules) in
    let acc_horiz : c.copy_from_slice-6.new.self ≡ run_octets (low 4) (v.acc_horiz ∷ []) = c.copy_from_slice-6.ensures.after ∙ c.to_le_bytes-6.ensures ∙ low_4 v.acc_horiz (omega arith) in
    let acc_vert : c.copy_from_slice-7.new.self ≡ run_octets (low 2) (v.acc_vert ∷ []) = c.copy_from_slice-7.ensures.after ∙ c.to_le_bytes-7.ensures ∙ low_2 v.acc_vert (omega arith) in
    let acc_vel : c.copy_from_slice-8.new.self ≡ run_octets (low 2) (v.acc_vel ∷ []) = c.copy_from_slice-8.ensures.after ∙ c.to_le_bytes-8.ensures ∙ low_2 v.acc_vel (omega arith) in
    let vel_vert : c.copy_from_slice-9.new.self ≡ run_octets (low 2) (complement 32768 v.vel_vert ∷ []) = c.copy_from_slice-9.ensures.after ∙ c.to_le_bytes-9.ensures ∙ signed_2 v.vel_vert (search rules) in
    let ns_vog : c.copy_from_slice-10.new.self ≡ run_octets (low 2) (complement 32768 v.ns_vog ∷ []) = c.copy_from_slice-10.ensures.after ∙ c.to_le_bytes-10.ensures ∙ signed_2 v.ns_vog (search rules) in
    let ew_vog : c.copy_from_slice-11.new.self ≡ run_octets (low 2) (complement 32768 v.ew_vog ∷ []) = c.copy_from_slice-11.ensures.after ∙ c.to_le_bytes-11.ensures ∙ signed_2 v.ew_vog (search rules) in
    let state : c.copy_from_slice-12.new.self ≡ run_octets (low 2) (v.state ∷ []) = c.copy_from_slice-12.ensures.after ∙ c.to_le_bytes-12.ensures ∙ low_2 v.state (omega arith) in
    let squawk : c.copy_from_slice-13.new.self ≡ run_octets (low 2) (v.squawk ∷ []) = c.copy_from_slice-13.ensures.after ∙ c.to_le_bytes-13.ensures ∙ low_2 v.squawk (omega arith) in
    rw (utc_time, latitude, longitude, alt_pres, alt_gnss, acc_horiz, acc_vert, acc_vel, vel_vert, ns_vog, ew_vog, state, squawk)
