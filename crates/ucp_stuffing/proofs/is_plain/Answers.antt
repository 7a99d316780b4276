-- `ucp_stuffing::is_plain` meets its contract, by the test of each octet. Assumes nothing.
use borrow.Author.Tests.{eqb-true}
use Rattle.ucp_stuffing.proofs.Plain.{plain}
use Rattle.ucp_stuffing.proofs.is_plain.Goals as goal

pub returns : goal.returns
returns c e = plain 8 c.args.word (eqb-true _ _ e)
