-- What one call of the receiver does, from any value of its record. `Rattle.thm_ucp_receiver` shows that from a fresh record
-- on this computes what the line's history says. Assumes nothing.
use Rattle.std.specs.Prelude.{◌≡◌, ℕ, ◌+◌, cond, List, length, replicate, ◌==◌, nat_lt, slice_set}
use Rattle.refusals.specs.Numbers as because
use Rattle.ucp_frame.specs.Frame.{flag, escape}
use Rattle.ucp_frame.specs.Stretch.{Verdict, silent, refused, store_octets}
use Rattle.ucp_receiver.specs.Answers.{receiver_answer, answer_for, output_at_flag}
use Rattle.ucp_receiver.specs.Closing.{closed_stretch}
use Rattle.ucp_receiver.specs.declared.Counts.{Counts}
use Rattle.ucp_receiver.specs.Account.{zero_counts, counted_flag, counted_skipped, counted_open, repeated}
use Rattle.ucp_receiver.specs.declared.Phase.{Phase}
use Rattle.ucp_receiver.specs.declared.Phase.TheVariants.{Hunting, Reading, Escape, BadEscape, TooLong}
use Rattle.ucp_receiver.specs.declared.Rest.{Rest}
use Rattle.ucp_receiver.specs.declared.Record.{Record}
use Rattle.ucp_receiver.specs.declared.Received.{Received}

-- the record without its counts
pub record State : Type 0 where
  pub rest : Rest
  pub store : List ℕ

abbrev pub state_of : Rest → List ℕ → State
state_of rest store = record { rest = rest; store = store }

abbrev pub no_octets : List ℕ
no_octets = replicate store_octets 0

-- at the start, and after every flag
abbrev pub fresh_rest : Rest
fresh_rest = record { phase = Hunting; stored = 0 }

abbrev pub fresh_record : Record
fresh_record = record { rest = fresh_rest; counts = zero_counts }

abbrev pub flag_rest : Rest
flag_rest = record { phase = Reading; stored = 0 }

abbrev pub fresh : State
fresh = record { rest = fresh_rest; store = no_octets }

abbrev pub after_flag : State
after_flag = record { rest = flag_rest; store = no_octets }

-- ---- an octet other than the flag

abbrev pub in_phase : Phase → State → State
in_phase p s = record { rest = record { phase = p; stored = s.rest.stored }; store = s.store }

-- an unstuffed octet is stored behind the others; the 439th is a fault
unfoldable pub storing : ℕ → State → State
storing x s =
    cond (nat_lt s.rest.stored store_octets)
    (record { rest = record { phase = Reading; stored = s.rest.stored + 1 }; store = slice_set s.store s.rest.stored x })
    (in_phase TooLong s)

abbrev pub advanced_in : Phase → ℕ → State → State
advanced_in Hunting x s = s
advanced_in Reading x s = cond (x == escape) (in_phase Escape s) (storing x s)
advanced_in Escape x s = cond (x == 0x5E) (storing flag s) (cond (x == 0x5D) (storing escape s) (in_phase BadEscape s))
advanced_in BadEscape x s = s
advanced_in TooLong x s = s

-- ---- the flag

abbrev pub closed_in : Phase → State → ℕ → Verdict
closed_in Hunting s room = silent
closed_in Reading s room = closed_stretch s.rest.stored s.store room
closed_in Escape s room = refused because.escape_before_flag
closed_in BadEscape s room = refused because.bad_escape
closed_in TooLong s room = refused because.too_long

-- ---- one octet

unfoldable pub state_after : State → ℕ → State
state_after s x = cond (x == flag) after_flag (advanced_in s.rest.phase x s)

unfoldable pub verdict_due : State → ℕ → ℕ → Verdict
verdict_due s x room = cond (x == flag) (closed_in s.rest.phase s room) silent

-- ---- the byte account

-- at an octet other than the flag, by the phase that it meets
abbrev pub counted_octet : Phase → Counts → Counts
counted_octet Hunting = counted_skipped
counted_octet Reading = counted_open
counted_octet Escape = counted_open
counted_octet BadEscape = counted_open
counted_octet TooLong = counted_open

-- at n such octets, each in this phase
abbrev pub counted_by : Phase → ℕ → Counts → Counts
counted_by p n c = repeated (counted_octet p) n c

unfoldable pub counts_after : Counts → State → ℕ → ℕ → Counts
counts_after c s x room = cond (x == flag) (counted_flag (closed_in s.rest.phase s room) c) (counted_octet s.rest.phase c)

-- ---- the call

-- one call, whole: the record, the octet and the output as at entry; what is given back, the store and the output as at return
pub record Receives (receiver : Record) (store : List ℕ) (octet : ℕ) (output : List ℕ)
    (given : Received) (store_after output_then : List ℕ) : Type 0 where
  pub state : state_of given.receiver.rest store_after ≡ state_after (state_of receiver.rest store) octet
  pub account : given.receiver.counts ≡ counts_after receiver.counts (state_of receiver.rest store) octet (length output)
  pub answers : receiver_answer given.answer ≡ answer_for (verdict_due (state_of receiver.rest store) octet (length output))
  pub puts : output_then ≡ output_at_flag (verdict_due (state_of receiver.rest store) octet (length output)) output
