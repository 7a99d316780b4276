-- `c_ucp_report::in_12` meets its contract. Assumes nothing.
use Rattle.c_ucp_report.proofs.Numbers.{held_12}
use Rattle.c_ucp_report.proofs.in_12.Goals as goal

pub returns : goal.returns
returns c = held_12 c.args.bits c.ranges.bits.fits
