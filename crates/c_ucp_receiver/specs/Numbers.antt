-- The receiver's record and answers as numbers, for C and Rust, and what a call on them does. Assumes nothing.
use Rattle.std.specs.Prelude.{◌≡◌, ℕ, ◌^◌, ◌<◌, cond, List, [], ◌∷◌, ◌==◌, slice_index, Option, None, Some, Ok, Err, find}
use Rattle.refusals.specs.declared.Refusal.{Refusal}
use Rattle.refusals.specs.declared.Refusal.TheVariants as why
use Rattle.refusals.specs.Refusals.{refusal_number}
use Rattle.ucp_receiver.specs.declared.Phase.{Phase}
use Rattle.ucp_receiver.specs.declared.Phase.TheVariants.{Hunting, Reading, Escape, BadEscape, TooLong}
use Rattle.ucp_receiver.specs.declared.Rest.{Rest}
use Rattle.ucp_receiver.specs.declared.Counts.{Counts}
use Rattle.ucp_receiver.specs.declared.Record.{Record}
use Rattle.ucp_receiver.specs.declared.Received.{Received}
use Rattle.ucp_receiver.specs.declared.Taken.{Taken}
use Rattle.ucp_receiver.specs.Answers.{Answer, ReceiverAnswer, nothing, refusal, body, receiver_answer}
use Rattle.ucp_receiver.specs.Octet.{fresh_record, no_octets, Receives}
use Rattle.ucp_receiver.specs.Slice.{Takes}

-- ---- a phase: 0 hunting, 1 reading, 2 escape, 3 bad escape, 4 and every other number too long

abbrev pub phase_of : ℕ → Phase
phase_of n = cond (n == 0) Hunting (cond (n == 1) Reading (cond (n == 2) Escape (cond (n == 3) BadEscape TooLong)))

abbrev pub phase_number : Phase → ℕ
phase_number Hunting = 0
phase_number Reading = 1
phase_number Escape = 2
phase_number BadEscape = 3
phase_number TooLong = 4

-- ---- the line: phase, stored, flags, delivered, refused, skipped, open

abbrev pub rest_in : List ℕ → Rest
rest_in line = record { phase = phase_of (slice_index line 0); stored = slice_index line 1 }

abbrev pub counts_in : List ℕ → Counts
counts_in line =
    record { flags = slice_index line 2; delivered = slice_index line 3; refused = slice_index line 4; skipped = slice_index line 5; unclosed = slice_index line 6 }

abbrev pub record_in : List ℕ → Record
record_in line = record { rest = rest_in line; counts = counts_in line }

abbrev pub record_numbers : Record → List ℕ
record_numbers receiver =
    phase_number receiver.rest.phase
    ∷ receiver.rest.stored
    ∷ receiver.counts.flags
    ∷ receiver.counts.delivered
    ∷ receiver.counts.refused
    ∷ receiver.counts.skipped
    ∷ receiver.counts.unclosed
    ∷ []

-- ---- an answer: kind 0 nothing; 1 delivered, with the body's length; 2 refused, with the refusal's number

abbrev pub all_refusals : List Refusal
all_refusals =
    why.BadEscape ∷ why.EscapeBeforeFlag ∷ why.TooLong ∷ why.TooShort ∷ why.WrongCheck ∷ why.Room
    ∷ why.BodyLength ∷ why.OutputLength
    ∷ why.UnknownId ∷ why.MessageLength ∷ why.Fixed ∷ why.Field
    ∷ why.MavlinkShort ∷ why.MavlinkStart ∷ why.MavlinkUnknownId ∷ why.MavlinkLength ∷ why.MavlinkWrongCheck ∷ why.MavlinkField ∷ []

-- the refusal of a number, where there is one: no call refuses with another
abbrev pub refusal_named : ℕ → Option Refusal
refusal_named number = find (λ r. refusal_number r == number) all_refusals

abbrev pub refused_with : Option Refusal → Answer
refused_with None = None
refused_with (Some r) = Some (Err r)

abbrev pub answer_in : ℕ → ℕ → Answer
answer_in kind value = cond (kind == 1) (Some (Ok value)) (cond (kind == 2) (refused_with (refusal_named value)) None)

abbrev pub kind_told : ReceiverAnswer → ℕ
kind_told nothing = 0
kind_told (body octets) = 1
kind_told (refusal number) = 2

abbrev pub value_told : ReceiverAnswer → ℕ
value_told nothing = 0
value_told (body octets) = octets
value_told (refusal number) = number

abbrev pub answer_kind : Answer → ℕ
answer_kind a = kind_told (receiver_answer a)

abbrev pub answer_value : Answer → ℕ
answer_value a = value_told (receiver_answer a)

-- one octet on the record that the line stands for; what it gives fits the numbers again
pub record ReceivesFitting (store line : List ℕ) (octet : ℕ) (output : List ℕ) (given : Received) (store_after output_then : List ℕ) : Type 0 where
  pub received : Receives (record_in line) store octet output given store_after output_then
  pub stored : given.receiver.rest.stored < 2 ^ 32
  pub value : answer_value given.answer < 2 ^ 32

pub record TakesFitting (store line octets output : List ℕ) (given : Taken) (store_after output_then : List ℕ) : Type 0 where
  pub took : Takes (record_in line) store octets output given store_after output_then
  pub stored : given.receiver.rest.stored < 2 ^ 32
  pub value : answer_value given.answer < 2 ^ 32

-- the numbers are those of what they stand for: a phase's own number, and value 0 where there is no answer
pub record OwnNumbers (numbers : List ℕ) (k v : ℕ) : Type 0 where
  pub line : numbers ≡ record_numbers (record_in numbers)
  pub kind : k ≡ answer_kind (answer_in k v)
  pub value : v ≡ answer_value (answer_in k v)

-- one octet: store, line and output as at entry, and as at return
pub record ReceivesNumbers (store line : List ℕ) (octet : ℕ) (output : List ℕ) (kind value : ℕ) (store_after line_after output_then : List ℕ)
    : Type 0 where
  pub received : Receives (record_in line) store octet output
      (record { receiver = record_in line_after; answer = answer_in kind value }) store_after output_then
  pub written : OwnNumbers line_after kind value

-- a slice of line octets
pub record TakesNumbers (store line octets output : List ℕ) (kind value taken : ℕ) (store_after line_after output_then : List ℕ) : Type 0 where
  pub took : Takes (record_in line) store octets output
      (record { receiver = record_in line_after; answer = answer_in kind value; taken = taken }) store_after output_then
  pub written : OwnNumbers line_after kind value

-- a fresh receiver: the store and the line as at return
abbrev pub StartsNumbers : List ℕ → List ℕ → Type 0
StartsNumbers store_after line_after = (store_after ≡ no_octets) × (line_after ≡ record_numbers fresh_record)
