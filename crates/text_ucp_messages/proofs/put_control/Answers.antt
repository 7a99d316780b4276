-- `text_ucp_messages::put_control` meets its contract: its template over its numbers is its fields. Assumes nothing.
use mathlib.Core.List.{[]}
use mir.Syntax.{w32}
use Rattle.text_fields.specs.Fields.{fields_shown}
use Rattle.text_fields.specs.Templates.{filled}
use Rattle.text_fields.proofs.Taken.{signed, truth_back, put_as}
use Rattle.text_ucp_messages.specs.Messages.{message_shown}
use Rattle.ucp_messages.specs.declared.Message.TheVariants.{Control}
use Rattle.text_ucp_messages.proofs.put_control.Goals as goal

pub returns : goal.returns
unfolding message_shown fields_shown filled
returns c =
    let m = c.args.message in
    let told = c.struct_told-1.given in
    put_as c.put_named.ensures (λ i. message_shown (Control (record { es_enabled = truth_back m.es_enabled i; mode_s = truth_back m.mode_s i; mode_c = truth_back m.mode_c i; mode_a = truth_back m.mode_a i; ident = truth_back m.ident i; air_ground = m.air_ground; baro_checked = truth_back m.baro_checked i; altitude = signed w32 m.altitude told.1.1.1.1.1.1.1.0.1 i; squawk = m.squawk; emergency = m.emergency; identity = m.identity })) [])
