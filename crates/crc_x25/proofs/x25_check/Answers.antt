-- `crc_x25::x25_check` meets its contract: a running check of FFFF is the start. Assumes nothing.
use mathlib.Core.Path.{◌∙◌}
use Rattle.crc_x25.proofs.Step.{starts}
use Rattle.crc_x25.proofs.x25_check.Goals as goal

pub returns : goal.returns
returns c = c.x25_after.ensures ∙ starts _
