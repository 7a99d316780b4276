-- `mavlink_frame::reader::check_of_six` meets its contract: the octets stand in two words. Assumes nothing.
use mathlib.Core.Path.{sym, ap, ap₂, ◌∙◌}
use mathlib.Core.List.{List, [], ◌∷◌, ◌++◌, append_assoc}
use Prim.Native.Nat.{ℕ}
use native.Mathlib.Omega.{arith}
use lib.ListN.{take, drop}
use lib.Seq.{take-take, take-add, drop-drop}
use Rattle.field_words.proofs.Digits.{lowest, topped}
use Rattle.crc_x25.specs.Check.{x25}
use Rattle.mavlink_frame.proofs.reader.check_of_six.Goals as goal

pub returns : goal.returns
returns c =
    let input = c.args.input.now in
    let extra = c.args.extra in
    let first = c.little_64-first in
    let word = c.little_64-covered in
    let four = lowest 4 8 first.result (omega arith) ∙ ap (take 4) first.ensures ∙ take-take 4 8 (drop 1 input) (omega arith) in
    let seven =
    lowest 7 8 word.result (omega arith) ∙ ap (take 7) word.ensures ∙ take-take 7 8 (drop 5 input) (omega arith)
    ∙ ap (take 7) (sym (drop-drop 4 1 input))
    in
    c.x25_twelve.ensures
    ∙ ap₂ (λ (xs ys : List ℕ). x25 (xs ++ ys)) four (topped 7 word.result extra c.ranges.extra.fits ∙ ap (λ (xs : List ℕ). xs ++ extra ∷ []) seven)
    ∙ ap x25
    (sym (append_assoc (take 4 (drop 1 input)) (take 7 (drop 4 (drop 1 input))) (extra ∷ []))
    ∙ ap (λ (xs : List ℕ). xs ++ extra ∷ []) (sym (take-add 4 7 (drop 1 input))))
