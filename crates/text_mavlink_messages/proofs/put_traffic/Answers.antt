-- `text_mavlink_messages::put_traffic` meets its contract: its template over its numbers is its fields. Assumes nothing.
use mir.Syntax.{w16, w32}
use Rattle.text_fields.specs.Fields.{fields_shown}
use Rattle.text_fields.specs.Templates.{filled}
use Rattle.text_fields.proofs.Taken.{signed, put_as}
use Rattle.text_mavlink_messages.specs.Traffic246.{traffic_fields}
use Rattle.text_mavlink_messages.proofs.put_traffic.Goals as goal

pub returns : goal.returns
unfolding fields_shown filled
returns c =
    let m = c.args.message in
    let told = c.struct_told-1.given in
    put_as c.put_fields.ensures (λ i. fields_shown (traffic_fields (record { icao_address = m.icao_address; lat = signed w32 m.lat told.1.0.1 i; lon = signed w32 m.lon told.1.1.0.1 i; altitude = signed w32 m.altitude told.1.1.1.0.1 i; heading = m.heading; hor_velocity = m.hor_velocity; ver_velocity = signed w16 m.ver_velocity told.1.1.1.1.1.1.0.1 i; valid_flags = m.valid_flags; squawk = m.squawk; altitude_type = m.altitude_type; callsign = m.callsign; callsign_ninth = m.callsign_ninth; emitter_type = m.emitter_type; tslc = m.tslc })))
