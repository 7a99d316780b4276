-- `ucp_messages::uplink_payload` meets its contract, by its three ways. Assumes nothing.
use mathlib.Core.Path.{◌≡◌, ◌∙◌}
use Prim.Native.Nat.{◌-◌}
use native.Mathlib.Omega.{arith}
use lib.ListN.{length, get_or, drop, length-drop}
use lib.Seq.{take_all}
use Rattle.ucp_messages.proofs.Payload.{other_length, other_first, an_uplink}
use Rattle.ucp_messages.proofs.uplink_payload.Goals as goal

pub returns-then-body-ne436 : goal.returns-then-body-ne436
returns-then-body-ne436 c = other_length c.args.body.now c.if-body-ne436.true

pub returns-then-body-ne7 : goal.returns-then-body-ne7
returns-then-body-ne7 c = other_first c.args.body.now c.if-body-ne7.true

pub returns : goal.returns
returns c =
    let body = c.args.body.now in
    let n = c.if-body-ne436.false in
    let is : get_or body 0 0 ≡ 7 = omega (arith, c.if-body-ne7.false) in
    take_all (length body - 1) (drop 1 body) (omega (arith, length-drop 1 body)) ∙ an_uplink body (omega (arith, n)) is
