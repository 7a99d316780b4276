-- How long a refusal can be. Assumes nothing.
use mathlib.Core.Bool.{false}
use mathlib.Core.List.{List, [], ◌∷◌}
use Prim.Native.Nat.{ℕ, ◌≤◌, max}
use native.Mathlib.Omega.{arith}
use lib.Dec.{eqb}
use lib.ListN.{length, length-append}
use Rattle.text_output.proofs.Numerals.{numeral_most}
use Rattle.text_output.proofs.Longest.{either_most}
use Rattle.text_refusals.specs.Refusals.{Wording, rows, words_in, reason, refusal}

abbrev longest : List Wording → ℕ
longest [] = 8
longest (r ∷ rs) = max (length r.words) (longest rs)

words_most : (rs : List Wording) (n : ℕ) → length (words_in rs n) ≤ longest rs
words_most [] n = omega arith
words_most (r ∷ rs) n = either_most (eqb n r.number) _ _ (omega arith) (omega (arith, words_most rs n))

pub refusal_most : (n : ℕ) → length (refusal n) ≤ 59
unfolding refusal reason
refusal_most n = simp length-append (omega (arith, numeral_most false 10 20 n, words_most rows n))
