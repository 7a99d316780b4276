-- `mavlink_frame::reader::check_of_one` meets its contract: the octets stand in one word. Assumes nothing.
use mathlib.Core.Path.{ap, ◌∙◌}
use mathlib.Core.List.{List, [], ◌∷◌, ◌++◌}
use Prim.Native.Nat.{ℕ}
use native.Mathlib.Omega.{arith}
use lib.ListN.{take, drop}
use lib.Seq.{take-take}
use Rattle.field_words.proofs.Digits.{lowest, topped}
use Rattle.crc_x25.specs.Check.{x25}
use Rattle.mavlink_frame.proofs.reader.check_of_one.Goals as goal

pub returns : goal.returns
returns c =
    let word = c.little_64-covered in
    let covered = lowest 6 8 word.result (omega arith) ∙ ap (take 6) word.ensures ∙ take-take 6 8 (drop 1 c.args.input.now) (omega arith) in
    c.x25_seven.ensures
    ∙ ap x25 (topped 6 word.result c.args.extra c.ranges.extra.fits)
    ∙ ap (λ (xs : List ℕ). x25 (xs ++ c.args.extra ∷ [])) covered
