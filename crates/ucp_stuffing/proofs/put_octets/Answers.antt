-- `ucp_stuffing::put_octets` meets its contract. Assumes nothing.
use mathlib.Core.Path.{sym, ◌∙◌}
use Prim.Native.Nat.{◌+◌}
use native.Mathlib.Nat.{add-zero}
use lib.ListN.{get_or, drop}
use Rattle.ucp_frame.specs.Frame.{escaped, stuffed}
use Rattle.output_writing.proofs.ToPut.{first_room, first_put}
use Rattle.ucp_stuffing.proofs.Lengths.{octet_first, none_left}
use Rattle.ucp_stuffing.proofs.put_octets.Goals as goal

pub put-at-requires : goal.put-at-requires
put-at-requires c =
    let l = c.loop-octet in
    let a = c.args in
    first_room (escaped (get_or a.octets.now l.octet-index 0)) (stuffed (drop (l.octet-index + 1) a.octets.now))
    (rw (octet_first a.octets.now l.octet-index c.loop-octet-test.true) at l.invariant)

pub loop-octet-preserved : goal.loop-octet-preserved
loop-octet-preserved c =
    let l = c.loop-octet in
    let a = c.args in
    first_put (escaped (get_or a.octets.now l.octet-index 0)) (stuffed (drop (l.octet-index + 1) a.octets.now))
    (rw (octet_first a.octets.now l.octet-index c.loop-octet-test.true) at l.invariant) c.put-at.ensures

pub returns : goal.returns
returns c =
    let l = c.loop-octet in
    let n = rw (none_left c.args.octets.now l.octet-index c.loop-octet-test.false) at l.invariant in
    record { ends = sym (add-zero l.at) ∙ n.ends; leaves = n.gives }
