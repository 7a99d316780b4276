-- `field_texts::pairs::is_padded_at` meets its contract, octet by octet. Assumes nothing.
use mathlib.Core.Path.{◌∙◌}
use mathlib.Core.List.{[], ◌∷◌}
use Prim.Native.Nat.{◌+◌}
use lib.ListN.{get_or}
use Rattle.field_texts.proofs.pairs.Steps.{then, last}
use Rattle.field_texts.proofs.pairs.is_padded_at.Goals as goal

pub returns : goal.returns
returns c =
    let xs = c.args.octets.now in
    let at = c.args.at in
    let x0 = get_or xs at 0 in
    let x1 = get_or xs (at + 1) 0 in
    let x2 = get_or xs (at + 2) 0 in
    let x3 = get_or xs (at + 3) 0 in
    let x4 = get_or xs (at + 4) 0 in
    let x5 = get_or xs (at + 5) 0 in
    let x6 = get_or xs (at + 6) 0 in
    let x7 = get_or xs (at + 7) 0 in
    let from-7 = c.goes_on-2.ensures ∙ last x7 in
    let from-6 = then x6 x7 [] c.goes_on.ensures from-7 in
    let from-5 = then x5 x6 (x7 ∷ []) c.goes_on-5.ensures from-6 in
    let from-4 = then x4 x5 (x6 ∷ x7 ∷ []) c.goes_on-4.ensures from-5 in
    let from-3 = then x3 x4 (x5 ∷ x6 ∷ x7 ∷ []) c.goes_on-3.ensures from-4 in
    let from-2 = then x2 x3 (x4 ∷ x5 ∷ x6 ∷ x7 ∷ []) c.goes_on-8.ensures from-3 in
    let from-1 = then x1 x2 (x3 ∷ x4 ∷ x5 ∷ x6 ∷ x7 ∷ []) c.goes_on-7.ensures from-2 in
    then x0 x1 (x2 ∷ x3 ∷ x4 ∷ x5 ∷ x6 ∷ x7 ∷ []) c.goes_on-6.ensures from-1
