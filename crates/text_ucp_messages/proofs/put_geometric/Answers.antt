-- `text_ucp_messages::put_geometric` meets its contract: its template over its numbers is its fields. Assumes nothing.
use mathlib.Core.List.{[]}
use mir.Syntax.{w16}
use Rattle.text_fields.specs.Fields.{fields_shown}
use Rattle.text_fields.specs.Templates.{filled}
use Rattle.text_fields.proofs.Taken.{signed, put_as}
use Rattle.text_ucp_messages.specs.Messages.{message_shown}
use Rattle.ucp_messages.specs.declared.Message.TheVariants.{GeometricAltitude}
use Rattle.text_ucp_messages.proofs.put_geometric.Goals as goal

pub returns : goal.returns
unfolding message_shown fields_shown filled
returns c =
    let m = c.args.message in
    let told = c.struct_told-1.given in
    put_as c.put_fields.ensures (λ i. message_shown (GeometricAltitude (record { altitude = signed w16 m.altitude told.0.1 i; metrics = m.metrics })) [])
