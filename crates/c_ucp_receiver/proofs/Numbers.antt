-- The numbers of a record or an answer stand for that record or answer. Assumes nothing.
use Rattle.std.proofs.Common.{◌≡◌, ℕ, List, [], ◌∷◌, length, get_or, set, sym, refl, ap, ◌∙◌, arith, Option, None, Some, Ok, Err}
use Rattle.ucp_receiver.specs.declared.Phase.{Phase}
use Rattle.ucp_receiver.specs.declared.Phase.TheVariants.{Hunting, Reading, Escape, BadEscape, TooLong}
use Rattle.ucp_receiver.specs.declared.Record.{Record}
use Rattle.refusals.specs.declared.Refusal.{Refusal}
use Rattle.refusals.specs.declared.Refusal.TheVariants as why
use Rattle.refusals.specs.Refusals.{refusal_number}
use Rattle.ucp_receiver.specs.Answers.{Answer, refusal, receiver_answer}
use Rattle.ucp_receiver.specs.Octet.{Receives}
use Rattle.ucp_receiver.specs.Slice.{Takes}
use Rattle.c_ucp_receiver.specs.Numbers.{phase_of, phase_number, record_in, record_numbers, refusal_named, refused_with, answer_in, answer_kind, answer_value, OwnNumbers, ReceivesNumbers, TakesNumbers}

pub phase_back : (p : Phase) → phase_of (phase_number p) ≡ p
phase_back Hunting = refl
phase_back Reading = refl
phase_back Escape = refl
phase_back BadEscape = refl
phase_back TooLong = refl

pub record_back : (receiver : Record) → record_in (record_numbers receiver) ≡ receiver
record_back receiver =
    ap (λ (p : Phase). record { rest = record { phase = p; stored = receiver.rest.stored }; counts = receiver.counts })
    (phase_back receiver.rest.phase)

refusal_back : (r : Refusal) → refusal_named (refusal_number r) ≡ Some r
refusal_back why.BadEscape = refl
refusal_back why.EscapeBeforeFlag = refl
refusal_back why.TooLong = refl
refusal_back why.TooShort = refl
refusal_back why.WrongCheck = refl
refusal_back why.Room = refl
refusal_back why.BodyLength = refl
refusal_back why.OutputLength = refl
refusal_back why.UnknownId = refl
refusal_back why.MessageLength = refl
refusal_back why.Fixed = refl
refusal_back why.Field = refl
refusal_back why.MavlinkShort = refl
refusal_back why.MavlinkStart = refl
refusal_back why.MavlinkUnknownId = refl
refusal_back why.MavlinkLength = refl
refusal_back why.MavlinkWrongCheck = refl
refusal_back why.MavlinkField = refl

pub answer_back : (a : Answer) → answer_in (answer_kind a) (answer_value a) ≡ a
answer_back None = refl
answer_back (Some (Ok octets)) = refl
answer_back (Some (Err r)) = ap refused_with (refusal_back r)

-- kind 2 tells a refusal, by its number
pub refusal_told : {line : List ℕ} {kind value : ℕ} → OwnNumbers line kind value → kind ≡ 2 → receiver_answer (answer_in kind value) ≡ refusal value
refusal_told {kind = kind} {value = value} own e =
    ap (λ (n : ℕ). receiver_answer (answer_in n value)) e
    ∙ go (refusal_named value) (sym e ∙ own.kind ∙ ap (λ (n : ℕ). answer_kind (answer_in n value)) e) (own.value ∙ ap (λ (n : ℕ). answer_value (answer_in n value)) e)
  where
    go : (o : Option Refusal) → 2 ≡ answer_kind (refused_with o) → value ≡ answer_value (refused_with o) → receiver_answer (refused_with o) ≡ refusal value
    go None k v = absurd (omega arith)
    go (Some r) k v = ap refusal (sym v)

module _ (line : List ℕ) (kind value : ℕ) (receiver : Record) (answer : Answer)
    (l : line ≡ record_numbers receiver) (k : kind ≡ answer_kind answer) (v : value ≡ answer_value answer) where
  record_is : record_in line ≡ receiver
  record_is = ap record_in l ∙ record_back receiver

  answer_is : answer_in kind value ≡ answer
  answer_is = ap (λ (n : ℕ). answer_in n value) k ∙ ap (answer_in (answer_kind answer)) v ∙ answer_back answer

  written : OwnNumbers line kind value
  written =
      record {
        line = l ∙ ap record_numbers (sym record_is);
        kind = k ∙ ap answer_kind (sym answer_is);
        value = v ∙ ap answer_value (sym answer_is);
      }

  pub receives : (before store : List ℕ) (octet : ℕ) (output store_after output_then : List ℕ)
      → Receives (record_in before) store octet output (record { receiver = receiver; answer = answer }) store_after output_then
      → ReceivesNumbers store before octet output kind value store_after line output_then
  receives before store octet output store_after output_then r =
      record { received = rw (record_is, answer_is) r; written = written }

  pub takes : (before store octets output : List ℕ) (taken : ℕ) (store_after output_then : List ℕ)
      → Takes (record_in before) store octets output (record { receiver = receiver; answer = answer; taken = taken }) store_after output_then
      → TakesNumbers store before octets output kind value taken store_after line output_then
  takes before store octets output taken store_after output_then r =
      record { took = rw (record_is, answer_is) r; written = written }

-- ---- the line by its elements

pub seven : (line : List ℕ) → length line ≡ 7
    → line ≡ get_or line 0 0 ∷ get_or line 1 0 ∷ get_or line 2 0 ∷ get_or line 3 0 ∷ get_or line 4 0 ∷ get_or line 5 0 ∷ get_or line 6 0 ∷ []
seven [] h = absurd (omega arith)
seven (a ∷ []) h = absurd (omega arith)
seven (a ∷ b ∷ []) h = absurd (omega arith)
seven (a ∷ b ∷ c ∷ []) h = absurd (omega arith)
seven (a ∷ b ∷ c ∷ d ∷ []) h = absurd (omega arith)
seven (a ∷ b ∷ c ∷ d ∷ e ∷ []) h = absurd (omega arith)
seven (a ∷ b ∷ c ∷ d ∷ e ∷ f ∷ []) h = absurd (omega arith)
seven (a ∷ b ∷ c ∷ d ∷ e ∷ f ∷ g ∷ []) h = refl
seven (a ∷ b ∷ c ∷ d ∷ e ∷ f ∷ g ∷ x ∷ xs) h = absurd (omega arith)

-- what an octet other than the flag changes
pub open_line : (line : List ℕ) (receiver : Record) → length line ≡ 7 → receiver.counts.flags ≡ get_or line 2 0
    → receiver.counts.delivered ≡ get_or line 3 0 → receiver.counts.refused ≡ get_or line 4 0
    → set (set (set (set line 0 (phase_number receiver.rest.phase)) 1 receiver.rest.stored) 5 receiver.counts.skipped) 6 receiver.counts.unclosed ≡ record_numbers receiver
open_line line receiver h f d r = rw (seven line h, f, d, r)
