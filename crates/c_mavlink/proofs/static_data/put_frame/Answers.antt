-- `c_mavlink::static_data::put_frame` meets its contract. Assumes nothing.
use mathlib.Core.Path.{ap, ◌∙◌}
use mathlib.Core.List.{◌++◌}
use lib.ListN.{drop}
use Rattle.field_format.specs.Format.{body_of}
use Rattle.mavlink_frame.specs.Frame.{kind, mavlink_kind, mavlink_frame}
use Rattle.mavlink_frame.specs.Reader.{payload_at}
use Rattle.mavlink_messages.specs.Static201.{static_format}
use Rattle.c_lent.specs.Structs.{held}
use Rattle.c_mavlink.specs.Structs.{header_struct, static_struct}
use Rattle.c_mavlink.proofs.Static.{body_length, framed}
use Rattle.c_mavlink.proofs.static_data.put_frame.Goals as goal

pub returns : goal.returns
unfolding mavlink_kind
returns c =
    let v = held static_struct c.args.message.now in
    let mid = c.put_payload.new.output in
    framed (kind 201 19 126) (held header_struct c.args.header.now) (body_of static_format v) c.args.output.now (body_length v) c.requires.3
    c.put_payload.ensures
    (c.surround.ensures ∙ ap (λ h. mavlink_frame (kind 201 19 126) h (payload_at 19 mid) ++ drop 27 mid) c.sender.ensures)
