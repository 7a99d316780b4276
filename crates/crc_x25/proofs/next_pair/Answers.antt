-- `crc_x25::next_pair` meets its contract, by the law of the sixteen places. Assumes nothing.
use Rattle.crc_x25.proofs.Shifts.{paired}
use Rattle.crc_x25.proofs.Step.{pair_step}
use Rattle.crc_x25.proofs.next_pair.Goals as goal

pub returns : goal.returns
unfolding paired
returns c =
    pair_step c.args.check c.args.first c.args.second c.ranges.check.fits c.ranges.first.fits c.ranges.second.fits
