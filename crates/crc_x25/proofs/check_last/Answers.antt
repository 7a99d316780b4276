-- `crc_x25::check_last` meets its contract: the octets that are left and the extra are the word's. Assumes nothing.
use mathlib.Core.Path.{ap, ◌∙◌}
use mathlib.Core.List.{List, [], ◌∷◌, ◌++◌}
use Prim.Native.Nat.{ℕ}
use native.Mathlib.Omega.{arith}
use lib.ListN.{take}
use Rattle.field_words.specs.Words.{octets_up}
use Rattle.field_words.proofs.Digits.{whole}
use Rattle.crc_x25.specs.Check.{x25_from}
use Rattle.crc_x25.proofs.check_last.Goals as goal

pub returns-in-len7 : goal.returns-in-len7
returns-in-len7 c =
    let a = c.args in
    c.next_eight.ensures
    ∙ ap (x25_from a.check) (c.word_of-in-len7.ensures ∙ ap (λ (xs : List ℕ). xs ++ a.extra ∷ []) (whole 7 a.octets.now (omega arith)))

pub returns-in-len3 : goal.returns-in-len3
unfolding octets_up
returns-in-len3 c =
    let a = c.args in
    c.next_four.ensures
    ∙ ap (x25_from a.check)
    (ap (take {A = ℕ} 4) c.word_of.ensures ∙ ap (λ (xs : List ℕ). xs ++ a.extra ∷ []) (whole 3 a.octets.now (omega arith)))
