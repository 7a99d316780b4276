-- The receiver's answer in the paper's terms, and what it leaves in the output. Assumes nothing.
use Rattle.std.specs.Prelude.{ℕ, List, ◌++◌, length, take, drop, Option, None, Some, Result, Ok, Err}
use Rattle.refusals.specs.declared.Refusal.{Refusal}
use Rattle.refusals.specs.Refusals.{refusal_number}
use Rattle.ucp_frame.specs.Stretch.{Verdict, silent, refused, delivered}

-- no answer, how many octets were delivered, or why there are none
abbrev pub Answer : Type 0
Answer = Option (Result ℕ Refusal)

-- the paper's number and values of each case of the answer; a body is given by its length, and stands in the output
pub data ReceiverAnswer : Type 0 where
  nothing : ReceiverAnswer
  refusal : ℕ → ReceiverAnswer
  body : ℕ → ReceiverAnswer

abbrev pub receiver_answer : Answer → ReceiverAnswer
receiver_answer None = nothing
receiver_answer (Some (Err why)) = refusal (refusal_number why)
receiver_answer (Some (Ok octets)) = body octets

abbrev pub answer_for : Verdict → ReceiverAnswer
answer_for silent = nothing
answer_for (refused number) = refusal number
answer_for (delivered octets) = body (length octets)

-- the verdict that an answer stands for, while these octets hold the body
abbrev pub verdict_of : Answer → List ℕ → Verdict
verdict_of None store = silent
verdict_of (Some (Err why)) store = refused (refusal_number why)
verdict_of (Some (Ok octets)) store = delivered (take octets store)

-- a body is put at the start of the output; a refusal, and a call without an answer, change nothing in it
abbrev pub output_at_flag : Verdict → List ℕ → List ℕ
output_at_flag silent output = output
output_at_flag (refused number) output = output
output_at_flag (delivered octets) output = octets ++ drop (length octets) output
