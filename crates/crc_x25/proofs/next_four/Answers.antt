-- `crc_x25::next_four` meets its contract: the octets that met the check stand behind four zeros in the word. Assumes nothing.
use mathlib.Core.Path.{ap, ◌∙◌}
use lib.Bits.{bit_xor}
use Rattle.field_words.specs.Words.{octets_up}
use Rattle.field_words.proofs.Pairs.{double}
use Rattle.crc_x25.specs.Check.{x25_from}
use Rattle.crc_x25.proofs.Step.{above_zeros, zeros_passed, met_first}
use Rattle.crc_x25.proofs.next_four.Goals as goal

pub returns : goal.returns
unfolding double
returns c =
    let a = c.args in
    let met = bit_xor a.word a.check in
    c.next_eight.ensures
    ∙ ap (x25_from 0) (above_zeros met)
    ∙ zeros_passed (octets_up 4 met)
    ∙ met_first 1 a.check a.word c.ranges.check.fits
