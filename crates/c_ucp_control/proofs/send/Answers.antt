-- `c_ucp_control::send` meets its contract, by its two ways. Assumes nothing.
use mathlib.Core.Path.{◌≡◌, ◌∙◌, ap₂, ap}
use mathlib.Core.Bool.{◌&&◌, not}
use native.Mathlib.Omega.{arith}
use Rattle.field_format.specs.Format.{fits}
use Rattle.ucp_messages.specs.Control45.{control_format}
use Rattle.c_lent.proofs.Writers.{fitting, not_fitting}
use Rattle.c_lent.specs.Structs.{held}
use Rattle.c_ucp_control.specs.Struct.{control_struct}
use Rattle.c_ucp_control.proofs.Held.{held_small, held_range, frame_room, not_sent, sent}
use Rattle.c_ucp_control.proofs.send.Lts as lts
use Rattle.c_ucp_control.proofs.send.Tie as tie
use Rattle.c_ucp_control.proofs.send.Reads as reads
use Rattle.c_ucp_control.proofs.send.Goals as goal

abbrev From-After-is_padded_at : Type 0
From-After-is_padded_at = lts.After-is_padded_at tie.the-claims reads.Pre reads.Post

tested : (c : From-After-is_padded_at)
    → (c.numbers_fit.result && c.is_padded_at.result) ≡ fits control_format (held control_struct c.args.message.now)
tested c =
    ap₂ ◌&&◌ c.numbers_fit.ensures c.is_padded_at.ensures ∙ held_range c.args.message.now c.requires.0

pub returns-then-not-numbers_fit-is_padded_at : goal.returns-then-not-numbers_fit-is_padded_at
returns-then-not-numbers_fit-is_padded_at c =
    let a = c.args in
    not_sent (held control_struct a.message.now) a.buffer.now (not_fitting (tested c.before.before) (ap not c.if-not-numbers_fit-is_padded_at.true))

pub put_frame-requires : goal.put_frame-requires
put_frame-requires c =
    let m = c.args.message.now in
    (c.requires.0, held_small m c.requires.0 (fitting (tested c.before.before.before) (ap not c.if-not-numbers_fit-is_padded_at.false)), omega (arith, frame_room (held control_struct m)))

pub returns : goal.returns
returns c =
    let f = c.put_frame.ensures in
    sent (held control_struct c.args.message.now) c.args.buffer.now (fitting (tested c.before.before.before.before.before.before) (ap not c.if-not-numbers_fit-is_padded_at.false))
    c.requires.1 f.0 f.1
