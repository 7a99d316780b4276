-- `crc_gdl90::table` meets its contract: antt computes the rule at all 256 entries, once. Assumes nothing.
use mathlib.Core.Path.{refl}
use Rattle.crc_polynomial.specs.Polynomial.{bits_of, divided, step, reduced}
use Rattle.crc_gdl90.specs.Check.{table_entry}
use Rattle.crc_gdl90.proofs.Step.{carried}
use Rattle.crc_gdl90.proofs.table.Goals as goal

pub returns : goal.returns
unfolding table_entry divided bits_of step reduced
returns c = carried _ refl
