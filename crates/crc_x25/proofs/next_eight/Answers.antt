-- `crc_x25::next_eight` meets its contract, by the law of the sixty-four places. Assumes nothing.
use Rattle.crc_x25.proofs.Words.{eight}
use Rattle.crc_x25.proofs.Step.{eight_step}
use Rattle.crc_x25.proofs.next_eight.Goals as goal

pub returns : goal.returns
unfolding eight
returns c = eight_step c.args.check c.args.word c.ranges.check.fits c.ranges.word.fits
