-- `ucp_stuffing::counted_length` meets its contract. Assumes nothing.
use native.Mathlib.Omega.{arith}
use mathlib.Core.Path.{ap}
use lib.ListN.{length}
use Rattle.ucp_frame.proofs.Stuffing.{stuffed_length_most}
use Rattle.ucp_stuffing.proofs.Lengths.{octet_length, none_left}
use Rattle.ucp_stuffing.proofs.counted_length.Goals as goal

pub overflow_add-count : goal.overflow_add-count
overflow_add-count c =
    let l = c.loop-octet in
    omega (arith, l.invariant, octet_length c.args.octets.now l.octet-index c.loop-octet-test.true, stuffed_length_most c.args.octets.now, c.requires)

pub loop-octet-preserved : goal.loop-octet-preserved
loop-octet-preserved c =
    let l = c.loop-octet in
    omega (arith, l.invariant, octet_length c.args.octets.now l.octet-index c.loop-octet-test.true)

pub returns : goal.returns
returns c =
    let l = c.loop-octet in
    omega (arith, l.invariant, ap length (none_left c.args.octets.now l.octet-index c.loop-octet-test.false))
