-- The failures that a status reports (document 001, "Status Message"): how many bits are set, and the lowest. Assumes nothing.
use Rattle.std.specs.Prelude.{List, [], ◌∷◌, ℕ, length, Option, Some, None}
use Rattle.mavlink_messages.specs.FailureBits.{failure_bits}
use Rattle.mavlink_messages.specs.declared.Failures.{Failures}

-- in the paper's terms: the lowest bit that is set, or none
pub data LowestAnswer : Type 0 where
  bit : ℕ → LowestAnswer
  none : LowestAnswer

pub record FailureAnswer : Type 0 where
  pub count : ℕ
  pub lowest : LowestAnswer

-- the same of each case of the code's answer
abbrev pub lowest_answer : Option ℕ → LowestAnswer
lowest_answer (Some b) = bit b
lowest_answer None = none

abbrev pub failure_answer : Failures → FailureAnswer
failure_answer f = record { count = f.count; lowest = lowest_answer f.lowest }

abbrev pub lowest_of : List ℕ → LowestAnswer
lowest_of [] = none
lowest_of (b ∷ bs) = bit b

unfoldable pub failures_in : ℕ → FailureAnswer
failures_in status = record { count = length (failure_bits status); lowest = lowest_of (failure_bits status) }

abbrev pub no_failures : FailureAnswer
no_failures = record { count = 0; lowest = none }
