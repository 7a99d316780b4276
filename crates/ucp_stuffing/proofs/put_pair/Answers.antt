-- `ucp_stuffing::put_pair` meets its contract: the one octet is put, and then the other. Assumes nothing.
use Rattle.ucp_stuffing.proofs.Both.{both}
use Rattle.ucp_stuffing.proofs.put_pair.Goals as goal

pub returns : goal.returns
returns c = both c.put-next.ensures c.put.ensures
