-- Worked examples of what C has as numbers: the receiver's line, phases and answers by the names and places of
-- include/ostrogosz/ucp.h, what a raw number means, and the failures of a status. Two numbers exchanged, in the definition and in its
-- inverse alike, make one of these fail. Assumes nothing.
use Rattle.std.specs.Prelude.{◌≡◌, List, [], ◌∷◌, ℕ, pos, negsuc, None, Some, Ok, Err}
use Rattle.ucp_meanings.specs.Meanings.{no_data, value}
use Rattle.ucp_receiver.specs.declared.Phase.{Phase}
use Rattle.ucp_receiver.specs.declared.Phase.TheVariants.{Hunting, Reading, Escape, BadEscape, TooLong}
use Rattle.refusals.specs.declared.Refusal.TheVariants.{WrongCheck}
use Rattle.ucp_receiver.specs.Answers.{Answer}
use Rattle.ucp_receiver.specs.declared.Record.{Record}
use Rattle.mavlink_messages.specs.Failures.{failures_in}
use Rattle.c_ucp_meanings.specs.Measures.{measure_of}
use Rattle.c_ucp_receiver.specs.Numbers.{phase_of, phase_number, record_in, record_numbers, answer_in, answer_kind, answer_value}
use Rattle.c_mavlink.specs.Failures.{failure_numbers}

-- the line, in the order of OSTROGOSZ_UCP_LINE_PHASE, _STORED, _FLAGS, _DELIVERED, _REFUSED, _SKIPPED and _OPEN
abbrev pub line_held : List ℕ
line_held = 2 ∷ 5 ∷ 11 ∷ 12 ∷ 13 ∷ 14 ∷ 15 ∷ []

abbrev pub record_held : Record
record_held =
    record {
      rest = record { phase = Escape; stored = 5 };
      counts = record { flags = 11; delivered = 12; refused = 13; skipped = 14; unclosed = 15 };
    }

-- a phase's own number
abbrev pub IsPhase : ℕ → Phase → Type 0
IsPhase n phase = (phase_of n ≡ phase) × (phase_number phase ≡ n)

-- an answer's kind and value
abbrev pub IsAnswer : ℕ → ℕ → Answer → Type 0
IsAnswer kind number answer = (answer_in kind number ≡ answer) × (answer_kind answer ≡ kind) × (answer_value answer ≡ number)

pub record NumberExamples : Type 0 where
  -- ---- the receiver
  pub line_taken : record_in line_held ≡ record_held
  pub line_written : record_numbers record_held ≡ line_held
  pub hunting : IsPhase 0 Hunting
  pub reading : IsPhase 1 Reading
  pub escape : IsPhase 2 Escape
  pub bad_escape : IsPhase 3 BadEscape
  pub too_long : IsPhase 4 TooLong
  pub greater : phase_of 5 ≡ TooLong
  pub no_answer : IsAnswer 0 0 None
  pub delivered : IsAnswer 1 9 (Some (Ok 9))
  pub refused : IsAnswer 2 5 (Some (Err WrongCheck))
  -- ---- what a raw number means: 0 and 0 for no data, 1 beside a value
  pub no_measure : measure_of no_data ≡ record { known = 0; value = pos 0 }
  pub measure : measure_of (value (negsuc 999)) ≡ record { known = 1; value = negsuc 999 }
  -- ---- 203: how many failures, and the lowest
  pub no_failure : failure_numbers (failures_in 0x00) ≡ record { count = 0; lowest = 0 }
  pub bit_4 : failure_numbers (failures_in 0x10) ≡ record { count = 1; lowest = 4 }
  pub bits_3_and_4 : failure_numbers (failures_in 0x18) ≡ record { count = 2; lowest = 3 }
