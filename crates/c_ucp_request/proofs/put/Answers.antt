-- `c_ucp_request::put` meets its contract: the body's octets are put one behind the other. Assumes nothing.
use Rattle.c_ucp_request.proofs.Stored.{body_put}
use Rattle.c_ucp_request.proofs.put.Goals as goal

pub returns : goal.returns
returns c =
    body_put c.args.message.now c.requires.0 c.args.output.now c.requires.1
