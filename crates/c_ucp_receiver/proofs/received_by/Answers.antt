-- `c_ucp_receiver::received_by` meets its contract: what fits before the call fits behind it. Assumes nothing.
use Rattle.c_ucp_receiver.proofs.Bounds.{fitting}
use Rattle.c_ucp_receiver.proofs.received_by.Goals as goal

pub returns : goal.returns
returns c =
    let e = c.record_in.ensures in
    fitting _ _ _ _ _ _ _ (rw e.0 at e.1) (rw e.0 at c.receive.ensures)
