-- `c_ucp_heartbeat::fill` meets its contract. Assumes nothing.
use Rattle.c_ucp_heartbeat.proofs.Stored.{body_stored}
use Rattle.c_ucp_heartbeat.proofs.fill.Goals as goal

pub returns : goal.returns
returns c =
    body_stored c.args.body.now (λ i. (c.shared_slice_known-1.given i).fits) c.requires
