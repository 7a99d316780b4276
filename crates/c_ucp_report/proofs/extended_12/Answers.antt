-- `c_ucp_report::extended_12` meets its contract. Assumes nothing.
use Rattle.c_ucp_report.proofs.Numbers.{extend_12}
use Rattle.c_ucp_report.proofs.extended_12.Goals as goal

pub returns : goal.returns
returns c = extend_12 c.args.bits c.requires
