-- `mavlink_frame::writer::check_of_one` meets its contract: the octets stand in one word. Assumes nothing.
use mathlib.Core.Path.{ap, ◌∙◌}
use mathlib.Core.List.{List}
use Prim.Native.Nat.{ℕ}
use native.Mathlib.Omega.{arith}
use lib.ListN.{take}
use Rattle.field_words.proofs.Digits.{lowest}
use Rattle.crc_x25.specs.Check.{x25}
use Rattle.mavlink_frame.proofs.writer.check_of_one.Goals as goal

pub returns : goal.returns
returns c =
    c.x25_seven.ensures
    ∙ ap x25 (lowest 7 8 _ (omega arith))
    ∙ ap (λ (xs : List ℕ). x25 (take 7 xs)) c.word_of.ensures
