-- `mavlink_frame::writer::check_of_six` meets its contract: the octets stand in two words. Assumes nothing.
use mathlib.Core.Path.{ap, ap₂, ◌∙◌}
use mathlib.Core.List.{List, ◌++◌}
use Prim.Native.Nat.{ℕ}
use native.Mathlib.Omega.{arith}
use lib.ListN.{take}
use Rattle.field_words.proofs.Digits.{lowest}
use Rattle.crc_x25.specs.Check.{x25}
use Rattle.mavlink_frame.specs.Frame.{covered}
use Rattle.mavlink_frame.proofs.writer.Put.{six}
use Rattle.mavlink_frame.proofs.writer.check_of_six.Goals as goal

pub returns : goal.returns
returns c =
    let k = c.args.kind in
    let h = c.args.header in
    let first = lowest 4 8 _ (omega arith) ∙ ap (take 4) c.word_of-first.ensures in
    c.x25_twelve.ensures
    ∙ ap₂ (λ (xs ys : List ℕ). x25 (xs ++ ys)) first c.word_of-others.ensures
    ∙ ap (λ (p : List ℕ). x25 (covered k h p)) (six c.args.payload.now c.requires)
