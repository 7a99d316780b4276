-- `ucp_writer::put_head` meets its contract. Assumes nothing.
use mathlib.Core.Path.{refl, ap}
use native.Mathlib.Omega.{arith}
use lib.ListN.{length}
use Rattle.ucp_writer.proofs.Head.{stuffed_none, stuffed_one, stuffed_two}
use Rattle.ucp_writer.proofs.put_head.Goals as goal

pub returns-then-octets-eq0 : goal.returns-then-octets-eq0
returns-then-octets-eq0 c =
    let a = c.args in
    rw (stuffed_none a.octets a.body.now c.if-octets-eq0.true) (record { ends = refl; leaves = refl })

pub put-requires : goal.put-requires
put-requires c =
    let a = c.args in
    omega (arith, ap length (stuffed_one a.octets a.body.now c.if-octets-eq1.true (omega arith)), c.requires)

pub returns-then-octets-eq1 : goal.returns-then-octets-eq1
returns-then-octets-eq1 c =
    let a = c.args in
    rw (stuffed_one a.octets a.body.now c.if-octets-eq1.true (omega arith)) c.put.ensures

pub put_pair-requires : goal.put_pair-requires
put_pair-requires c =
    let a = c.args in
    omega (arith, ap length (stuffed_two a.octets a.body.now (omega arith) (omega arith)), c.requires)

pub returns : goal.returns
returns c =
    let a = c.args in
    rw (stuffed_two a.octets a.body.now (omega arith) (omega arith)) c.put_pair.ensures
