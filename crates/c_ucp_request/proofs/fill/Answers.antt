-- `c_ucp_request::fill` meets its contract. Assumes nothing.
use Rattle.c_ucp_request.proofs.Stored.{body_stored}
use Rattle.c_ucp_request.proofs.fill.Goals as goal

pub returns : goal.returns
returns c =
    body_stored c.args.body.now c.requires
