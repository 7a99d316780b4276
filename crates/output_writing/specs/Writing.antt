-- What every writer answers, and what it leaves in the output that it is lent (document 01, the paragraph below the table); the same
-- in numbers, for C. Assumes nothing.
use Rattle.std.specs.Prelude.{◌≡◌, cond, List, ◌++◌, ℕ, ltb, length, drop, Result, Ok, Err}
use Rattle.refusals.specs.Numbers as because
use Rattle.refusals.specs.Refusals.{refusal_number}
use Rattle.refusals.specs.declared.Refusal.{Refusal}
use Rattle.output_writing.specs.declared.OstrogoszWritten.{OstrogoszWritten}

-- a writer's answer: how many octets were written, or why the call was refused
abbrev pub Written : Type 0
Written = Result ℕ Refusal

-- an answer in the paper's terms: a refusal's number, or how many octets were written
pub data WriterAnswer : Type 0 where
  refused : ℕ → WriterAnswer
  wrote : ℕ → WriterAnswer

-- the paper's number and values of each case
abbrev pub writer_answer : Written → WriterAnswer
writer_answer (Err refusal) = refused (refusal_number refusal)
writer_answer (Ok octets) = wrote octets

-- the last test of every writer: 8 for an output shorter than so many octets, else they are written
abbrev pub room_for : ℕ → List ℕ → WriterAnswer
room_for octets output = cond (ltb (length output) octets) (refused because.output_length) (wrote octets)

-- what the output then holds: what it held, where the call is refused; else the octets, and behind them what it held
abbrev pub output_after : List ℕ → List ℕ → WriterAnswer → List ℕ
output_after octets output (refused number) = output
output_after octets output (wrote n) = octets ++ drop n output

-- one call, whole: the answer that is due, the octets to write and the output as at entry; the answer, and the output as at
-- return
pub record Writing (due : WriterAnswer) (octets output : List ℕ) (answer : Written) (after : List ℕ) : Type 0 where
  pub answers : writer_answer answer ≡ due
  pub leaves : after ≡ output_after octets output (writer_answer answer)

-- a refusal's number and no length; or no refusal, and how many octets were written
abbrev pub written_numbers : WriterAnswer → OstrogoszWritten
written_numbers (refused number) = record { refusal = number; length = 0 }
written_numbers (wrote octets) = record { refusal = 0; length = octets }

-- what an answer is in numbers
abbrev pub IsWrittenInNumbers : Written → OstrogoszWritten → Type 0
IsWrittenInNumbers written given = given ≡ written_numbers (writer_answer written)

-- one call, whole: the answer that is due, the octets to write and the output as at entry; what is given back, and the output
-- as at return
pub record WritingNumbers (due : WriterAnswer) (octets output : List ℕ) (given : OstrogoszWritten) (after : List ℕ) : Type 0 where
  pub answers : given ≡ written_numbers due
  pub leaves : after ≡ output_after octets output due
