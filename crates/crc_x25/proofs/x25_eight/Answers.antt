-- `crc_x25::x25_eight` meets its contract: FFFF is the start. Assumes nothing.
use mathlib.Core.Path.{◌∙◌}
use Rattle.field_words.specs.Words.{octets_up}
use Rattle.crc_x25.proofs.Step.{starts}
use Rattle.crc_x25.proofs.x25_eight.Goals as goal

pub returns : goal.returns
returns c = c.next_eight.ensures ∙ starts (octets_up 8 c.args.word)
