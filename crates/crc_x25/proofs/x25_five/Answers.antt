-- `crc_x25::x25_five` meets its contract: the five octets stand behind three zeros in the word. Assumes nothing.
use mathlib.Core.Path.{ap, ◌∙◌}
use Rattle.crc_x25.specs.Check.{x25_from}
use Rattle.crc_x25.proofs.Step.{zeros_before}
use Rattle.crc_x25.proofs.x25_five.Goals as goal

pub returns : goal.returns
returns c = c.next_eight.ensures ∙ ap (x25_from 0x8EB4) c.word_of-word.ensures ∙ zeros_before _
