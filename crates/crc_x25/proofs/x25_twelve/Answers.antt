-- `crc_x25::x25_twelve` meets its contract: the four octets stand behind four zeros in the first word. Assumes nothing.
use mathlib.Core.Path.{ap, ◌∙◌}
use Prim.Native.Nat.{ℕ}
use Rattle.field_words.specs.Words.{octets_up}
use Rattle.crc_x25.specs.Check.{x25_from}
use Rattle.crc_x25.proofs.Step.{above_zeros, four_before, after}
use Rattle.crc_x25.proofs.x25_twelve.Goals as goal

pub returns : goal.returns
returns c =
    let a = c.args in
    c.next_eight-2.ensures
    ∙ ap (λ (n : ℕ). x25_from n (octets_up 8 a.word))
    (c.next_eight.ensures ∙ ap (x25_from 0xEC2A) (above_zeros a.first) ∙ four_before (octets_up 4 a.first))
    ∙ after (octets_up 4 a.first) (octets_up 8 a.word)
