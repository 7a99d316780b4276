-- `c_ucp_report::in_24` meets its contract. Assumes nothing.
use Rattle.c_ucp_report.proofs.Numbers.{held_24}
use Rattle.c_ucp_report.proofs.in_24.Goals as goal

pub returns : goal.returns
returns c = held_24 c.args.bits c.ranges.bits.fits
