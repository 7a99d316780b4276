-- `c_ucp_uplink::fill` meets its contract: the payload has no octet more than the body behind its first. Assumes nothing.
use Rattle.c_ucp_uplink.proofs.Filled.{all_stored}
use Rattle.c_ucp_uplink.proofs.fill.Goals as goal

pub returns : goal.returns
returns c =
    let e = c.store.ensures in
    all_stored c.args.body.now c.args.payload.now c.requires.0 c.requires.1 e.0 e.1
