-- `crc_x25::x25_seven` meets its contract: the seven octets stand behind a zero in the word. Assumes nothing.
use mathlib.Core.Path.{◌≡◌, refl, ap, ◌∙◌}
use mathlib.Core.List.{◌∷◌}
use Prim.Native.Nat.{ℕ, ◌*◌, ◌%◌, ◌^◌}
use Rattle.field_words.specs.Words.{octets_up}
use Rattle.field_words.proofs.Digits.{lows, below}
use Rattle.crc_x25.specs.Check.{x25_from}
use Rattle.crc_x25.proofs.Step.{zero_before}
use Rattle.crc_x25.proofs.x25_seven.Goals as goal

moved : (word : ℕ) → octets_up 8 (word * 256 % 2 ^ 64) ≡ 0 ∷ octets_up 7 word
moved word = lows 8 (word * 256) ∙ below 7 (word * 256) word refl

pub returns : goal.returns
returns c = c.next_eight.ensures ∙ ap (x25_from 0x3078) (moved c.args.word) ∙ zero_before (octets_up 7 c.args.word)
