-- `c_ucp_report::extended_24` meets its contract. Assumes nothing.
use Rattle.c_ucp_report.proofs.Numbers.{extend_24}
use Rattle.c_ucp_report.proofs.extended_24.Goals as goal

pub returns : goal.returns
returns c = extend_24 c.args.bits c.requires
