-- A slice of line octets is taken as its octets would be, a call for each with the same room; so a line driven by slices
-- is a line of calls by the octet, and what holds of those holds of it. Assumes nothing.
use Rattle.std.specs.Prelude.{◌≡◌, List, [], ◌∷◌, ◌++◌, map, ℕ, suc, ◌<◌, ◌≤◌, length, take, get_or, replicate}
use Rattle.crc_polynomial.specs.Polynomial.{Octets}
use Rattle.ucp_frame.specs.Frame.{flag}
use Rattle.ucp_frame.specs.Stretch.{Verdict, silent}
use Rattle.ucp_receiver.specs.declared.Counts.{Counts}
use Rattle.ucp_receiver.specs.declared.Record.{Record}
use Rattle.ucp_receiver.specs.declared.Taken.{Taken}
use Rattle.ucp_receiver.specs.Answers.{ReceiverAnswer, nothing, receiver_answer}
use Rattle.ucp_receiver.specs.Octet.{State, no_octets, fresh_record, flag_rest, state_after, verdict_due, counts_after}
use Rattle.ucp_receiver.specs.Slice.{SliceRun, slice_run, Takes}
use Rattle.thm_ucp_receiver.specs.Line.{Observed, Runs, Line}

-- the record, its counts and the answers after a call for each of these octets
abbrev pub state_over : State → List ℕ → State
state_over s [] = s
state_over s (x ∷ xs) = state_over (state_after s x) xs

abbrev pub counts_over : Counts → State → List ℕ → ℕ → Counts
counts_over c s [] room = c
counts_over c s (x ∷ xs) room = counts_over (counts_after c s x room) (state_after s x) xs room

abbrev pub answers_over : State → List ℕ → ℕ → List Verdict
answers_over s [] room = []
answers_over s (x ∷ xs) room = verdict_due s x room ∷ answers_over (state_after s x) xs room

-- the last of some answers
abbrev pub last_of : List Verdict → Verdict
last_of [] = silent
last_of (v ∷ []) = v
last_of (v ∷ w ∷ ws) = last_of (w ∷ ws)

-- the octets taken are run one by one, and all but the last of them are silent; with no answer all are taken
pub record TakenAs (s : State) (c : Counts) (xs : List ℕ) (room : ℕ) (r : SliceRun) : Type 0 where
  pub most : r.taken ≤ length xs
  pub state : r.state ≡ state_over s (take r.taken xs)
  pub counts : r.counts ≡ counts_over c s (take r.taken xs) room
  pub verdict : r.verdict ≡ last_of (answers_over s (take r.taken xs) room)
  pub quiet : (i : ℕ) → suc i < r.taken → get_or (answers_over s (take r.taken xs) room) i silent ≡ silent
  pub all : r.verdict ≡ silent → r.taken ≡ length xs

abbrev pub SliceIsOctets : Type 0
SliceIsOctets = (s : State) (c : Counts) (xs : List ℕ) (room : ℕ) → TakenAs s c xs room (slice_run s c xs room)

-- ---- a call with a slice as calls by the octet

-- one call with a slice: the slice and the output as at entry; what is given back, the store and the output as at return
pub record ObservedSlice : Type 0 where
  pub line : List ℕ
  pub output : List ℕ
  pub given : Taken
  pub store_after : List ℕ
  pub output_then : List ℕ

-- the slice has octets, and the call meets the contract from this record
abbrev pub MeetsSlice : Record → List ℕ → ObservedSlice → Type 0
MeetsSlice receiver store s =
    Octets s.line × Takes receiver store s.line s.output s.given s.store_after s.output_then

-- the octets that it took
abbrev pub slice_octets : ObservedSlice → List ℕ
slice_octets s = take s.given.taken s.line

-- the rooms lent to a call for each of them
abbrev pub rooms_of : ObservedSlice → List ℕ
rooms_of s = replicate s.given.taken (length s.output)

-- the record, whole
pub record Held : Type 0 where
  pub receiver : Record
  pub store : List ℕ

-- after some calls by the octet, the record and the output are as the last of them left them
abbrev pub record_after : Held → List Observed → Held
record_after held [] = held
record_after held (o ∷ os) = record_after (record { receiver = o.given.receiver; store = o.store_after }) os

abbrev pub output_last : List ℕ → List Observed → List ℕ
output_last output [] = output
output_last output (o ∷ os) = output_last o.output_then os

-- each call is lent the output as the one before left it, the first of them this one
abbrev pub Lent : List ℕ → List Observed → Type 0
Lent output [] = Unit
Lent output (o ∷ os) = (o.output ≡ output) × Lent o.output_then os

-- all calls but the last are silent, and the last answers this; where there is no call, this is silence
abbrev pub AnswersLast : ReceiverAnswer → List Observed → Type 0
AnswersLast t [] = nothing ≡ t
AnswersLast t (o ∷ []) = receiver_answer o.given.answer ≡ t
AnswersLast t (o ∷ p ∷ os) = (receiver_answer o.given.answer ≡ nothing) × AnswersLast t (p ∷ os)

-- calls by the octet, from the same record and with the same output, that come to what the call with the slice comes to; octets
-- are taken up to the first that brings an answer, or all of them
pub record CallsOf (receiver : Record) (store : List ℕ) (s : ObservedSlice) : Type 0 where
  pub calls : List Observed
  pub runs : Runs receiver store calls
  pub octets : map (λ (o : Observed). o.octet) calls ≡ slice_octets s
  pub rooms : map (λ (o : Observed). length o.output) calls ≡ rooms_of s
  pub lent : Lent s.output calls
  pub leaves :
      record_after (record { receiver = receiver; store = store }) calls
      ≡ record { receiver = s.given.receiver; store = s.store_after }
  pub puts : output_last s.output calls ≡ s.output_then
  pub answers : AnswersLast (receiver_answer s.given.answer) calls
  pub all : receiver_answer s.given.answer ≡ nothing → s.given.taken ≡ length s.line

abbrev pub SliceRuns : Type 0
SliceRuns = (receiver : Record) (store : List ℕ) (s : ObservedSlice) → MeetsSlice receiver store s → CallsOf receiver store s

-- where the octets taken end in a flag, from any record and whatever the answer, the store is zero and the rest is the one fixed value
abbrev pub SliceFlagClears : Type 0
SliceFlagClears =
    (receiver : Record) (store line output : List ℕ) (given : Taken) (store_after output_then earlier : List ℕ)
    → Takes receiver store line output given store_after output_then → take given.taken line ≡ earlier ++ flag ∷ []
    → (store_after ≡ no_octets) × (given.receiver.rest ≡ flag_rest)

-- ---- a line driven by slices

-- each of these calls meets the contract, the first from this record and the others from what the one before gave back
abbrev pub SlicesRun : Record → List ℕ → List ObservedSlice → Type 0
SlicesRun receiver store [] = Unit
SlicesRun receiver store (s ∷ ss) =
    MeetsSlice receiver store s × SlicesRun s.given.receiver s.store_after ss

abbrev pub SliceLine : List ObservedSlice → Type 0
SliceLine = SlicesRun fresh_record no_octets

-- the octets, or the rooms, of calls with slices one after the other
abbrev pub gathered : {A : Type 0} → (A → List ℕ) → List A → List ℕ
gathered f [] = []
gathered f (s ∷ ss) = f s ++ gathered f ss

-- calls by the octet for the slices before, and then those of this slice, run from this record
pub record CallsUpTo (receiver : Record) (store : List ℕ) (before : List ObservedSlice) (s : ObservedSlice) : Type 0 where
  pub earlier : List Observed
  pub octets : map (λ (o : Observed). o.octet) earlier ≡ gathered slice_octets before
  pub rooms : map (λ (o : Observed). length o.output) earlier ≡ gathered rooms_of before
  pub met : Held
  pub meets : record_after (record { receiver = receiver; store = store }) earlier ≡ met
  pub own : CallsOf met.receiver met.store s
  pub runs : Runs receiver store (earlier ++ own.calls)

-- a line driven by slices is a line of calls by the octet, up to each of its slices
abbrev pub LineOfSlices : Type 0
LineOfSlices =
    (before after : List ObservedSlice) (s : ObservedSlice) → SliceLine (before ++ s ∷ after)
    → CallsUpTo fresh_record no_octets before s

-- none of these calls has an answer
abbrev pub AllSilent : List Observed → Type 0
AllSilent [] = Unit
AllSilent (o ∷ os) = (receiver_answer o.given.answer ≡ nothing) × AllSilent os

-- a line of calls by the octet, first for the slices before, then for this one, silent up to a last call that is lent the same
-- output and gives back what this slice does
pub record EndsAsSlice (before : List ObservedSlice) (s : ObservedSlice) : Type 0 where
  pub earlier : List Observed
  pub quiet : List Observed
  pub last : Observed
  pub line : Line ((earlier ++ quiet) ++ last ∷ [])
  pub octets_before : map (λ (o : Observed). o.octet) earlier ≡ gathered slice_octets before
  pub octets : map (λ (o : Observed). o.octet) (quiet ++ last ∷ []) ≡ slice_octets s
  pub rooms_before : map (λ (o : Observed). length o.output) earlier ≡ gathered rooms_of before
  pub rooms : map (λ (o : Observed). length o.output) (quiet ++ last ∷ []) ≡ rooms_of s
  pub silence : AllSilent quiet
  pub output : last.output ≡ s.output
  pub answer : receiver_answer last.given.answer ≡ receiver_answer s.given.answer
  pub receiver : last.given.receiver ≡ s.given.receiver
  pub store_after : last.store_after ≡ s.store_after
  pub output_then : last.output_then ≡ s.output_then

-- so every promise of a line's call holds of a slice that took an octet
abbrev pub SliceIsCall : Type 0
SliceIsCall =
    (before after : List ObservedSlice) (s : ObservedSlice) → SliceLine (before ++ s ∷ after) → 1 ≤ s.given.taken
    → EndsAsSlice before s
