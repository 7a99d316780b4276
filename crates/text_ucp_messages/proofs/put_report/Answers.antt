-- `text_ucp_messages::put_report` meets its contract: its template over its numbers is its fields. Assumes nothing.
use mathlib.Core.List.{◌∷◌, ◌++◌}
use native.Mathlib.Omega.{arith}
use mir.Syntax.{w16, w32}
use mir.ValLaws.{to_z_pos}
use Prim.Native.Nat.{◌*◌}
use lib.ListN.{take, drop}
use Rattle.text_fields.specs.Fields.{angle, ◌is◌, fields_shown}
use Rattle.text_fields.specs.Templates.{filled}
use Rattle.text_fields.proofs.Taken.{signed, put_as}
use Rattle.text_output.proofs.Clipped.{then}
use Rattle.text_ucp_messages.specs.Reports.{report_fields}
use Rattle.text_ucp_messages.proofs.put_report.Goals as goal

pub returns : goal.returns
unfolding fields_shown filled
returns c =
    let m = c.args.message in
    let told = c.struct_told-1.given in
    let known = c.struct_known-11-1.given in
    let steps = to_z_pos w32 (m.track * 65536) (omega (arith, known)) in
    then c.put_word.ensures
    (put_as c.put_named.ensures (λ i. let fields = report_fields (record { alert = m.alert; address_type = m.address_type; address = m.address; latitude = signed w32 m.latitude told.1.1.1.0.1 i; longitude = signed w32 m.longitude told.1.1.1.1.0.1 i; altitude = m.altitude; miscellaneous = m.miscellaneous; nic = m.nic; nacp = m.nacp; speed = m.speed; vertical_rate = signed w16 m.vertical_rate told.1.1.1.1.1.1.1.1.1.1.0.1 i; track = m.track; emitter = m.emitter; callsign = m.callsign; emergency = m.emergency; spare = m.spare }) in fields_shown (take 11 fields ++ ("track" is angle (steps i) ∷ drop 12 fields))))
