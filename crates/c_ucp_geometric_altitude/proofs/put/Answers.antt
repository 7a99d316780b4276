-- `c_ucp_geometric_altitude::put` meets its contract: the body's octets are put one behind the other. Assumes nothing.
use Rattle.c_ucp_geometric_altitude.proofs.Stored.{body_put}
use Rattle.c_ucp_geometric_altitude.proofs.put.Goals as goal

pub returns : goal.returns
returns c =
    body_put c.args.message.now c.requires.0 (λ i. (c.shared_slice_known-1.given i).fits) c.args.output.now c.requires.1
