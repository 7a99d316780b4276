-- What the calls of more than one kind do. Assumes nothing.
use Rattle.std.specs.Prelude.{true, cond, List, [], ◌∷◌, ℕ, ◌/◌, ◌%◌, eqb, length, Result, Ok, Err}
use Rattle.output_writing.specs.declared.OstrogoszWritten.{OstrogoszWritten}
use Rattle.refusals.specs.Refusals.{refusal_number}
use Rattle.refusals.specs.declared.Refusal.{Refusal}
use Rattle.ucp_answers.specs.Refusals.{refusal_by}
use Rattle.c_lent.specs.Reads.{refusal_as}

-- a reader's first two tests, of the ID and of the length: 10, then 11
abbrev pub first_refusal : ℕ → ℕ → List ℕ → ℕ
first_refusal id size body = refusal_as id body (refusal_by (eqb (length body) size) true true)

-- a number of 16 bits in a struct
abbrev pub two_of : ℕ → List ℕ
two_of n = n % 256 ∷ n / 256 ∷ []

-- what a reader answers in numbers: 0, or the refusal's
abbrev pub number_in : Result (Unit {0}) Refusal → ℕ
number_in (Ok done) = 0
number_in (Err refusal) = refusal_number refusal

-- what a writer answers, from a refusal's number, or from 0 and how many octets it wrote
abbrev pub numbered_answer : ℕ → ℕ → OstrogoszWritten
numbered_answer refusal length = record { refusal = refusal; length = cond (eqb refusal 0) length 0 }
