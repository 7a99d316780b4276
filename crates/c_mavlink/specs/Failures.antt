-- The failures that a status reports, in numbers. Assumes nothing.
use Rattle.std.specs.Prelude.{ℕ}
use Rattle.mavlink_messages.specs.Failures.{LowestAnswer, bit, none, FailureAnswer}
use Rattle.c_mavlink.specs.declared.OstrogoszMavlinkFailures.{OstrogoszMavlinkFailures}

-- the lowest failure bit, 1 to 4, or 0
abbrev pub lowest_number : LowestAnswer → ℕ
lowest_number (bit b) = b
lowest_number none = 0

abbrev pub failure_numbers : FailureAnswer → OstrogoszMavlinkFailures
failure_numbers f = record { count = f.count; lowest = lowest_number f.lowest }
