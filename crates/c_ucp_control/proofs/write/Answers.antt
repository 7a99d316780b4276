-- `c_ucp_control::write` meets its contract, by its three ways. Assumes nothing.
use mathlib.Core.Path.{◌≡◌, ◌∙◌, ap₂, ap}
use mathlib.Core.Bool.{◌&&◌, not}
use native.Mathlib.Omega.{arith}
use Rattle.field_format.specs.Format.{fits}
use Rattle.ucp_messages.specs.Control45.{control_format}
use Rattle.c_lent.proofs.Writers.{fitting, not_fitting, no_field, no_room, written}
use Rattle.c_lent.specs.Structs.{held}
use Rattle.c_ucp_control.specs.Struct.{control_struct}
use Rattle.c_ucp_control.proofs.Held.{body_length, held_small, held_range}
use Rattle.c_ucp_control.proofs.write.Lts as lts
use Rattle.c_ucp_control.proofs.write.Tie as tie
use Rattle.c_ucp_control.proofs.write.Reads as reads
use Rattle.c_ucp_control.proofs.write.Goals as goal

abbrev From-After-is_padded_at : Type 0
From-After-is_padded_at = lts.After-is_padded_at tie.the-claims reads.Pre reads.Post

tested : (c : From-After-is_padded_at)
    → (c.numbers_fit.result && c.is_padded_at.result) ≡ fits control_format (held control_struct c.args.message.now)
tested c =
    ap₂ ◌&&◌ c.numbers_fit.ensures c.is_padded_at.ensures ∙ held_range c.args.message.now c.requires

pub returns-then-not-numbers_fit-is_padded_at : goal.returns-then-not-numbers_fit-is_padded_at
returns-then-not-numbers_fit-is_padded_at c =
    let a = c.args in
    no_field control_format (held control_struct a.message.now) a.output.now (not_fitting (tested c.before.before) (ap not c.if-not-numbers_fit-is_padded_at.true))

pub returns-then-output-lt18 : goal.returns-then-output-lt18
returns-then-output-lt18 c =
    let a = c.args in
    no_room control_format (held control_struct a.message.now) a.output.now (fitting (tested c.before.before.before) (ap not c.if-not-numbers_fit-is_padded_at.false))
    (omega (arith, body_length (held control_struct a.message.now)))

pub put-requires : goal.put-requires
put-requires c =
    (c.requires, held_small c.args.message.now c.requires (fitting (tested c.before.before.before.before) (ap not c.if-not-numbers_fit-is_padded_at.false)), omega arith)

pub returns : goal.returns
returns c =
    let a = c.args in
    written control_format (held control_struct a.message.now) a.output.now (fitting (tested c.before.before.before.before.before.before.before) (ap not c.if-not-numbers_fit-is_padded_at.false))
    (body_length (held control_struct a.message.now)) (omega arith) c.put.ensures
