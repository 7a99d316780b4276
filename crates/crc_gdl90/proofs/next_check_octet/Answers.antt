-- `crc_gdl90::next_check_octet` meets its contract, by the law of the table's entries. Assumes nothing.
use mathlib.Core.Path.{refl}
use Rattle.crc_gdl90.specs.Steps.{by_shifts}
use Rattle.crc_gdl90.proofs.Steps.{shifts_is}
use Rattle.crc_gdl90.proofs.next_check_octet.Goals as goal

pub returns : goal.returns
unfolding by_shifts
returns c = (shifts_is c.args.check c.args.octet c.ranges.check.fits c.ranges.octet.fits, refl)
