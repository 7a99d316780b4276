-- `crc_x25::next_octet` meets its contract, by the law of the eight places. Assumes nothing.
use Rattle.crc_x25.proofs.Shifts.{shifted}
use Rattle.crc_x25.proofs.Step.{octet_step}
use Rattle.crc_x25.proofs.next_octet.Goals as goal

pub returns : goal.returns
unfolding shifted
returns c = octet_step c.args.check c.args.octet c.ranges.check.fits c.ranges.octet.fits
