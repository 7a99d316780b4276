-- `crc_gdl90::next_check_eight` meets its contract, by the law of the eight octets. Assumes nothing.
use Rattle.crc_gdl90.proofs.Words.{eight}
use mathlib.Core.Path.{refl}
use Rattle.crc_gdl90.specs.Steps.{eight_by_shifts}
use Rattle.crc_gdl90.proofs.Eight.{eight_step}
use Rattle.crc_gdl90.proofs.next_check_eight.Goals as goal

pub returns : goal.returns
unfolding eight eight_by_shifts
returns c = (eight_step c.args.check c.args.word c.ranges.check.fits c.ranges.word.fits, refl)
