-- A slice of line octets, taken up to and including the octet that brings the next answer. Assumes nothing.
use Rattle.std.specs.Prelude.{◌≡◌, ℕ, ◌+◌, List, [], ◌∷◌, length}
use Rattle.ucp_frame.specs.Stretch.{Verdict, silent, refused, delivered}
use Rattle.ucp_receiver.specs.Answers.{receiver_answer, answer_for, output_at_flag}
use Rattle.ucp_receiver.specs.declared.Counts.{Counts}
use Rattle.ucp_receiver.specs.declared.Record.{Record}
use Rattle.ucp_receiver.specs.Octet.{State, state_of, state_after, verdict_due, counts_after}
use Rattle.ucp_receiver.specs.declared.Taken.{Taken}

pub record SliceRun : Type 0 where
  pub state : State
  pub counts : Counts
  pub taken : ℕ
  pub verdict : Verdict

-- one octet more was taken before all this
abbrev pub later : SliceRun → SliceRun
later r = record { state = r.state; counts = r.counts; taken = r.taken + 1; verdict = r.verdict }

-- the run ends at an answer
abbrev pub end_at : Verdict → SliceRun → SliceRun → SliceRun
end_at silent ended goes_on = goes_on
end_at (refused number) ended goes_on = ended
end_at (delivered octets) ended goes_on = ended

unfoldable pub slice_run : State → Counts → List ℕ → ℕ → SliceRun
slice_run s c [] room = record { state = s; counts = c; taken = 0; verdict = silent }
slice_run s c (x ∷ xs) room =
    end_at (verdict_due s x room)
    (record { state = state_after s x; counts = counts_after c s x room; taken = 1; verdict = verdict_due s x room })
    (later (slice_run (state_after s x) (counts_after c s x room) xs room))

-- one call with a slice, whole, as `Receives` is of one octet
pub record Takes (receiver : Record) (store line output : List ℕ)
    (given : Taken) (store_after output_then : List ℕ) : Type 0 where
  pub state : state_of given.receiver.rest store_after ≡ (slice_run (state_of receiver.rest store) receiver.counts line (length output)).state
  pub account : given.receiver.counts ≡ (slice_run (state_of receiver.rest store) receiver.counts line (length output)).counts
  pub taken : given.taken ≡ (slice_run (state_of receiver.rest store) receiver.counts line (length output)).taken
  pub answers : receiver_answer given.answer ≡ answer_for (slice_run (state_of receiver.rest store) receiver.counts line (length output)).verdict
  pub puts : output_then ≡ output_at_flag (slice_run (state_of receiver.rest store) receiver.counts line (length output)).verdict output
