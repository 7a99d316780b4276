-- What a writer of one kind answers, also in numbers, and what it leaves in the output that it is lent. Assumes nothing.
use Rattle.std.specs.Prelude.{List, ℕ, Result, Ok}
use Rattle.std.specs.Result.{result_and}
use Rattle.refusals.specs.declared.Refusal.{Refusal}
use Rattle.ucp_answers.specs.Writes.{body_due, WritesBody}
use Rattle.field_format.specs.Format.{Format, fits, body_of}
use Rattle.output_writing.specs.declared.OstrogoszWritten.{OstrogoszWritten}
use Rattle.output_writing.specs.Writing.{WritingNumbers}

-- one call, whole: the kind and the value, the output as at entry, what is given back, and the output as at return
abbrev pub WritesStructBody : {A : Type 0} → Format A → A → List ℕ → OstrogoszWritten → List ℕ → Type 0
WritesStructBody f a output = WritingNumbers (body_due (fits f a) (body_of f a) output) (body_of f a) output

-- one call of the function behind it, whole, of a kind whose bodies have so many octets: it answers whether it wrote
abbrev pub WritesStruct : {A : Type 0} → Format A → A → ℕ → List ℕ → Result (Unit {0}) Refusal → List ℕ → Type 0
WritesStruct f a octets output answer = WritesBody (fits f a) (body_of f a) output (result_and answer (Ok octets))
