-- `crc_gdl90::next_check_pair` meets its contract, by the law of the two octets. Assumes nothing.
use mathlib.Core.Path.{refl}
use Rattle.crc_gdl90.specs.Steps.{two_by_shifts}
use Rattle.crc_gdl90.proofs.Pair.{pair_step}
use Rattle.crc_gdl90.proofs.next_check_pair.Goals as goal

pub returns : goal.returns
unfolding two_by_shifts
returns c =
    (pair_step c.args.check c.args.first c.args.second c.ranges.check.fits c.ranges.first.fits c.ranges.second.fits, refl)
