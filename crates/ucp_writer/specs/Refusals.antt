-- When the frame writer refuses a body (document 01, the table's rows 7 and 8, and "The frame writer tests 7 before 8"). Assumes nothing.
use Rattle.std.specs.Prelude.{◌≡◌, List, ◌⊎◌, ℕ, ◌≤◌, ◌<◌, length, Result, MatchResult, ⊤}
use Rattle.refusals.specs.Numbers as because
use Rattle.refusals.specs.Refusals.{refusal_number}
use Rattle.refusals.specs.declared.Refusal.{Refusal}
use Rattle.refusals.specs.declared.Refusal.TheVariants.{BodyLength}
use Rattle.ucp_frame.specs.Frame.{frame, longest_body}

-- row 7: a body of 0 or more than 436 octets
abbrev pub WrongBodyLength : List ℕ → Type 0
WrongBodyLength body = (length body ≡ 0) ⊎ (longest_body < length body)

-- row 8, where 7 is not due: an output shorter than the frame
abbrev pub NoRoomForFrame : List ℕ → List ℕ → Type 0
NoRoomForFrame body output = (1 ≤ length body) × (length body ≤ longest_body) × (length output < length (frame body))

-- neither
abbrev pub RoomForFrame : List ℕ → List ℕ → Type 0
RoomForFrame body output = (1 ≤ length body) × (length body ≤ longest_body) × (length (frame body) ≤ length output)

-- the refusals by their numbers
abbrev pub FrameWriterRefuses : List ℕ → List ℕ → ℕ → Type 0
FrameWriterRefuses body output number =
    ((number ≡ because.body_length) × WrongBodyLength body) ⊎ ((number ≡ because.output_length) × NoRoomForFrame body output)

-- the first test: whether a body may have so many octets
abbrev pub AdmitsLength : ℕ → Result ⊤ Refusal → Type 0
AdmitsLength n r =
    MatchResult r (λ _. (1 ≤ n) × (n ≤ longest_body)) (λ refusal. (refusal ≡ BodyLength) × ((n ≡ 0) ⊎ (longest_body < n)))

-- all tests
abbrev pub Admits : List ℕ → List ℕ → Result ⊤ Refusal → Type 0
Admits body output r = MatchResult r (λ _. RoomForFrame body output) (λ refusal. FrameWriterRefuses body output (refusal_number refusal))
