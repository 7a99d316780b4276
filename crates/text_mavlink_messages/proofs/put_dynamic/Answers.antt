-- `text_mavlink_messages::put_dynamic` meets its contract: its template over its numbers is its fields. Assumes nothing.
use mir.Syntax.{w16, w32}
use Rattle.text_fields.specs.Fields.{fields_shown}
use Rattle.text_fields.specs.Templates.{filled}
use Rattle.text_fields.proofs.Taken.{signed, put_as}
use Rattle.text_mavlink_messages.specs.Dynamic202.{dynamic_fields}
use Rattle.text_mavlink_messages.proofs.put_dynamic.Goals as goal

pub returns : goal.returns
unfolding fields_shown filled
returns c =
    let m = c.args.message in
    let told = c.struct_told-1.given in
    put_as c.put_fields.ensures (λ i. fields_shown (dynamic_fields (record { utc_time = m.utc_time; latitude = signed w32 m.latitude told.1.0.1 i; longitude = signed w32 m.longitude told.1.1.0.1 i; alt_pres = signed w32 m.alt_pres told.1.1.1.0.1 i; alt_gnss = signed w32 m.alt_gnss told.1.1.1.1.0.1 i; acc_horiz = m.acc_horiz; acc_vert = m.acc_vert; acc_vel = m.acc_vel; vel_vert = signed w16 m.vel_vert told.1.1.1.1.1.1.1.1.0.1 i; ns_vog = signed w16 m.ns_vog told.1.1.1.1.1.1.1.1.1.0.1 i; ew_vog = signed w16 m.ew_vog told.1.1.1.1.1.1.1.1.1.1.0.1 i; state = m.state; squawk = m.squawk; fix_type = m.fix_type; num_sats = m.num_sats; em_status = m.em_status; control = m.control })))
