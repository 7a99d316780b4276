-- Where `stored` fits 32 bits before a call, it does behind it, and so does the number of the answer. Assumes nothing.
use Rattle.std.proofs.Common.{◌≡◌, ℕ, ◌^◌, ◌<◌, Bool, true, false, cond, eqb, ltb, List, [], ◌∷◌, length, get_or, take, sym, refl, ap, subst, arith, length-take, ltb-true, ne_eqb}
use Rattle.crc_gdl90.specs.Check.{frame_check}
use Rattle.ucp_frame.specs.Frame.{flag, escape}
use Rattle.ucp_frame.specs.Stretch.{Verdict, silent, refused, delivered, store_octets, at_flag, without_check, check_sent}
use Rattle.ucp_receiver.specs.declared.Phase.{Phase}
use Rattle.ucp_receiver.specs.declared.Phase.TheVariants.{Hunting, Reading, Escape, BadEscape, TooLong}
use Rattle.ucp_receiver.specs.declared.Counts.{Counts}
use Rattle.ucp_receiver.specs.declared.Received.{Received}
use Rattle.ucp_receiver.specs.declared.Taken.{Taken}
use Rattle.ucp_receiver.specs.Answers.{Answer, receiver_answer, answer_for}
use Rattle.ucp_receiver.specs.Octet.{State, storing, advanced_in, closed_in, state_after, verdict_due, counts_after, counted_octet, Receives}
use Rattle.ucp_receiver.specs.Slice.{SliceRun, slice_run, end_at, Takes}
use Rattle.c_ucp_receiver.specs.Numbers.{rest_in, counts_in, record_in, value_told, answer_value, ReceivesFitting, TakesFitting}

by_test : {A : Type 0} (P : A → Type 0) (b : Bool) {x y : A} → (b ≡ true → P x) → (b ≡ false → P y) → P (cond b x y)
by_test P true p q = p refl
by_test P false p q = q refl

either : {A : Type 0} (P : A → Type 0) (b : Bool) {x y : A} → P x → P y → P (cond b x y)
either P b p q = by_test P b (λ e. p) (λ e. q)

abbrev pub SmallState : State → Type 0
SmallState s = s.rest.stored < 2 ^ 32

abbrev pub SmallVerdict : Verdict → Type 0
SmallVerdict v = value_told (answer_for v) < 2 ^ 32

storing_small : (x : ℕ) (s : State) → SmallState s → SmallState (storing x s)
unfolding storing
storing_small x s h =
    by_test SmallState (ltb s.rest.stored store_octets) (λ e. omega (arith, ltb-true s.rest.stored store_octets e)) (λ e. h)

advanced_small : (p : Phase) (x : ℕ) (s : State) → SmallState s → SmallState (advanced_in p x s)
advanced_small Hunting x s h = h
advanced_small Reading x s h = either SmallState (eqb x escape) h (storing_small x s h)
advanced_small Escape x s h =
    either SmallState (eqb x 0x5E) (storing_small flag s h) (either SmallState (eqb x 0x5D) (storing_small escape s h) h)
advanced_small BadEscape x s h = h
advanced_small TooLong x s h = h

pub state_small : (s : State) (x : ℕ) → SmallState s → SmallState (state_after s x)
unfolding state_after
state_small s x h = either SmallState (eqb x flag) (omega arith) (advanced_small s.rest.phase x s h)

flag_small : (octets : List ℕ) (room : ℕ) → length octets < 2 ^ 32 → SmallVerdict (at_flag octets room)
unfolding at_flag
flag_small octets room h =
    let short : length (without_check octets) < 2 ^ 32 = simp length-take (omega arith) in
    either SmallVerdict (ltb (length octets) 3) (omega arith)
    (either SmallVerdict (eqb (check_sent octets) (frame_check (without_check octets)))
    (either SmallVerdict (ltb room (length (without_check octets))) (omega arith) short)
    (omega arith))

closed_small : (p : Phase) (s : State) (room : ℕ) → SmallState s → SmallVerdict (closed_in p s room)
closed_small Hunting s room h = omega arith
closed_small Reading s room h =
    let short : length (take s.rest.stored s.store) < 2 ^ 32 = simp length-take (omega arith) in
    either SmallVerdict (eqb s.rest.stored 0) (omega arith)
    (either SmallVerdict (ltb store_octets s.rest.stored) (omega arith) (flag_small (take s.rest.stored s.store) room short))
closed_small Escape s room h = omega arith
closed_small BadEscape s room h = omega arith
closed_small TooLong s room h = omega arith

pub due_small : (s : State) (x room : ℕ) → SmallState s → SmallVerdict (verdict_due s x room)
unfolding verdict_due
due_small s x room h = either SmallVerdict (eqb x flag) (closed_small s.rest.phase s room h) (omega arith)

-- ---- over a slice

abbrev SmallRun : SliceRun → Type 0
SmallRun r = SmallState r.state × SmallVerdict r.verdict

either_end : (due : Verdict) (ended goes_on : SliceRun) → SmallRun ended → SmallRun goes_on → SmallRun (end_at due ended goes_on)
either_end silent ended goes_on p q = q
either_end (refused number) ended goes_on p q = p
either_end (delivered octets) ended goes_on p q = p

pub run_small : (s : State) (c : Counts) (line : List ℕ) (room : ℕ) → SmallState s → SmallRun (slice_run s c line room)
unfolding slice_run
run_small s c [] room h = (h, omega arith)
run_small s c (x ∷ xs) room h =
    either_end (verdict_due s x room) _ _ (state_small s x h, due_small s x room h)
    (run_small (state_after s x) (counts_after c s x room) xs room (state_small s x h))

-- ---- the answer's number

pub value_small : (answer : Answer) (due : Verdict) → receiver_answer answer ≡ answer_for due → SmallVerdict due → answer_value answer < 2 ^ 32
value_small answer due e h = subst (λ (n : ℕ). n < 2 ^ 32) (sym (ap value_told e)) h

-- ---- what a call gives

pub fitting : (store line : List ℕ) (octet : ℕ) (output : List ℕ) (given : Received) (store_after output_then : List ℕ) → get_or line 1 0 < 2 ^ 32
    → Receives (record_in line) store octet output given store_after output_then
    → ReceivesFitting store line octet output given store_after output_then
fitting store line octet output given store_after output_then h r =
    let s : State = record { rest = rest_in line; store = store } in
    record {
      received = r;
      stored = subst SmallState (sym r.state) (state_small s octet h);
      value = value_small given.answer (verdict_due s octet (length output)) r.answers (due_small s octet (length output) h);
    }

pub fitting_slice : (store line octets output : List ℕ) (given : Taken) (store_after output_then : List ℕ) → get_or line 1 0 < 2 ^ 32
    → Takes (record_in line) store octets output given store_after output_then
    → TakesFitting store line octets output given store_after output_then
fitting_slice store line octets output given store_after output_then h r =
    let s : State = record { rest = rest_in line; store = store } in
    let small = run_small s (counts_in line) octets (length output) h in
    record {
      took = r;
      stored = subst SmallState (sym r.state) small.0;
      value = value_small given.answer (slice_run s (counts_in line) octets (length output)).verdict r.answers small.1;
    }

-- an octet other than the flag leaves three counts as they were
kept : (p : Phase) (c : Counts)
    → ((counted_octet p c).flags ≡ c.flags) × ((counted_octet p c).delivered ≡ c.delivered) × ((counted_octet p c).refused ≡ c.refused)
kept Hunting c = (refl, refl, refl)
kept Reading c = (refl, refl, refl)
kept Escape c = (refl, refl, refl)
kept BadEscape c = (refl, refl, refl)
kept TooLong c = (refl, refl, refl)

pub kept_counts : (given c : Counts) (s : State) (x room : ℕ) → (x ≡ flag → ⊥) → given ≡ counts_after c s x room
    → (given.flags ≡ c.flags) × (given.delivered ≡ c.delivered) × (given.refused ≡ c.refused)
unfolding counts_after
kept_counts given c s x room f e = rw (e, ne_eqb x flag f) (kept s.rest.phase c)
