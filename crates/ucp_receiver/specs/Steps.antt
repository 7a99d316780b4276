-- What the steps of the receiver ensure: of a stretch that is closed, of an octet that is not taken for a flag, and of a call with a
-- slice. Assumes nothing.
use Rattle.std.specs.Prelude.{◌≡◌, ℕ, ◌+◌, ◌<◌, ◌≤◌, List, length, take, drop, ◌≢◌, slice_index, Result, Ok, Err, None, Some}
use Rattle.std.proofs.lemmas.List.Edits.{sets}
use Rattle.refusals.specs.declared.Refusal.{Refusal}
use Rattle.ucp_frame.specs.Stretch.{Verdict, store_octets}
use Rattle.ucp_receiver.specs.Answers.{verdict_of, receiver_answer, answer_for, output_at_flag}
use Rattle.ucp_frame.specs.Frame.{flag, stuffed}
use Rattle.ucp_receiver.specs.declared.Phase.{Phase}
use Rattle.ucp_receiver.specs.declared.Record.{Record}
use Rattle.ucp_receiver.specs.declared.Received.{Received}
use Rattle.ucp_receiver.specs.Octet.{State, state_of, advanced_in, counted_octet}
use Rattle.ucp_receiver.specs.declared.slice.Passed.{Passed}
use Rattle.ucp_receiver.specs.declared.Taken.{Taken}
use Rattle.ucp_receiver.specs.Slice.{SliceRun, slice_run, end_at}

-- a body that is due is there, and has room
abbrev pub HasRoom : Result ℕ Refusal → List ℕ → ℕ → Type 0
HasRoom (Err why) octets room = Unit
HasRoom (Ok n) octets room = (n ≤ length octets) × (n ≤ room)

-- the answer by the octets of a stretch, before anything is put out
pub record Judges (answer : Result ℕ Refusal) (octets : List ℕ) (room : ℕ) (due : Verdict) : Type 0 where
  pub means : verdict_of (Some answer) octets ≡ due
  pub has_room : HasRoom answer octets room

-- and with the body put out
pub record PutsOut (answer : Result ℕ Refusal) (octets output output_then : List ℕ) (due : Verdict) : Type 0 where
  pub judges : Judges answer octets (length output) due
  pub puts : output_then ≡ output_at_flag due output

-- a call with an octet taken for other than the flag, whole: no output is lent to it
pub record Advances (receiver : Record) (store : List ℕ) (octet : ℕ) (given : Received) (store_after : List ℕ) : Type 0 where
  pub state : state_of given.receiver.rest store_after ≡ advanced_in receiver.rest.phase octet (state_of receiver.rest store)
  pub account : given.receiver.counts ≡ counted_octet receiver.rest.phase receiver.counts
  pub answers : given.answer ≡ None

-- n octets more were taken before all this
abbrev pub later_by : ℕ → SliceRun → SliceRun
later_by n r = record { state = r.state; counts = r.counts; taken = r.taken + n; verdict = r.verdict }

-- stuffing leaves the first n octets of the line as they are
pub record Plain (line : List ℕ) (n : ℕ) : Type 0 where
  pub within : n ≤ length line
  pub plain : stuffed (take n line) ≡ take n line

-- and they stand in the store behind those that were stored
pub record StoresPlain (store : List ℕ) (stored : ℕ) (line : List ℕ) (n : ℕ) (store_after : List ℕ) : Type 0 where
  pub fits : stored + n ≤ store_octets
  pub plain : Plain line n
  pub puts : store_after ≡ sets store stored (take n line)

-- none of the first n octets of the line is a flag
pub record NoFlag (line : List ℕ) (n : ℕ) : Type 0 where
  pub within : n ≤ length line
  pub other : (i : ℕ) → i < n → slice_index line i ≢ flag

-- the phases in which an octet other than the flag is only counted
abbrev pub Ignores : Phase → Type 0
Ignores p = (x : ℕ) (s : State) → advanced_in p x s ≡ s

-- first octets of the line that bring no answer, and the run behind them
pub record Passes (receiver : Record) (store line : List ℕ) (given : Passed) (store_after : List ℕ) : Type 0 where
  pub within : given.taken ≤ length line
  pub runs : (room : ℕ) → slice_run (state_of receiver.rest store) receiver.counts line room
      ≡ later_by given.taken (slice_run (state_of given.receiver.rest store_after) given.receiver.counts (drop given.taken line) room)

-- first octets of the line, up to one that may bring an answer, and the run behind them where it brings none
pub record Turns (receiver : Record) (store line output : List ℕ) (given : Taken) (store_after output_then : List ℕ) : Type 0 where
  pub due : Verdict
  pub moved : 0 < given.taken
  pub within : given.taken ≤ length line
  pub answers : receiver_answer given.answer ≡ answer_for due
  pub puts : output_then ≡ output_at_flag due output
  pub runs : slice_run (state_of receiver.rest store) receiver.counts line (length output)
      ≡ end_at due (record { state = state_of given.receiver.rest store_after; counts = given.receiver.counts; taken = given.taken; verdict = due })
      (later_by given.taken (slice_run (state_of given.receiver.rest store_after) given.receiver.counts (drop given.taken line) (length output)))
