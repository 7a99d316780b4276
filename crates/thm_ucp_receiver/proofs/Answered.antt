-- Each answer that is due is one that the receiver can give: its refusals are among those of the table. Assumes nothing.
use Rattle.std.proofs.Common.{◌≡◌, ℕ, Bool, true, false, cond, eqb, ltb, List, [], ◌∷◌, length, refl, None, Some, Ok, Err}
use Rattle.crc_gdl90.specs.Check.{frame_check}
use Rattle.refusals.specs.declared.Refusal.{Refusal}
use Rattle.refusals.specs.declared.Refusal.TheVariants as why
use Rattle.refusals.specs.Refusals.{refusal_number}
use Rattle.ucp_frame.specs.Frame.{flag}
use Rattle.ucp_frame.specs.Stretch.{Verdict, silent, refused, delivered, store_octets, without_check, check_sent, at_flag}
use Rattle.ucp_receiver.specs.declared.Phase.{Phase}
use Rattle.ucp_receiver.specs.declared.Phase.TheVariants.{Hunting, Reading, Escape, BadEscape, TooLong}
use Rattle.ucp_receiver.specs.Answers.{Answer, receiver_answer, answer_for}
use Rattle.ucp_receiver.specs.declared.Counts.{Counts}
use Rattle.ucp_receiver.specs.Octet.{State, closed_in, state_after, verdict_due, counts_after}
use Rattle.ucp_receiver.specs.Slice.{SliceRun, slice_run, end_at}

pub record Told (due : Verdict) : Type 0 where
  pub answer : Answer
  pub tells : receiver_answer answer ≡ answer_for due

quiet : Told silent
quiet = record { answer = None; tells = refl }

refuses : (r : Refusal) → Told (refused (refusal_number r))
refuses r = record { answer = Some (Err r); tells = refl }

delivers : (body : List ℕ) → Told (delivered body)
delivers body = record { answer = Some (Ok (length body)); tells = refl }

either : (b : Bool) {v w : Verdict} → Told v → Told w → Told (cond b v w)
either true p q = p
either false p q = q

flag_told : (octets : List ℕ) (room : ℕ) → Told (at_flag octets room)
unfolding at_flag
flag_told octets room =
    either (ltb (length octets) 3) (refuses why.TooShort)
    (either (eqb (check_sent octets) (frame_check (without_check octets)))
    (either (ltb room (length (without_check octets))) (refuses why.Room) (delivers (without_check octets)))
    (refuses why.WrongCheck))

closed_told : (p : Phase) (s : State) (room : ℕ) → Told (closed_in p s room)
closed_told Hunting s room = quiet
closed_told Reading s room =
    either (eqb s.rest.stored 0) quiet (either (ltb store_octets s.rest.stored) (refuses why.TooLong) (flag_told _ room))
closed_told Escape s room = refuses why.EscapeBeforeFlag
closed_told BadEscape s room = refuses why.BadEscape
closed_told TooLong s room = refuses why.TooLong

pub due_told : (s : State) (x room : ℕ) → Told (verdict_due s x room)
unfolding verdict_due
due_told s x room = either (eqb x flag) (closed_told s.rest.phase s room) quiet

-- ---- over a slice

ends_told : (due : Verdict) (ended goes_on : SliceRun) → Told ended.verdict → Told goes_on.verdict → Told (end_at due ended goes_on).verdict
ends_told silent ended goes_on p q = q
ends_told (refused number) ended goes_on p q = p
ends_told (delivered octets) ended goes_on p q = p

pub run_told : (s : State) (c : Counts) (line : List ℕ) (room : ℕ) → Told (slice_run s c line room).verdict
unfolding slice_run
run_told s c [] room = quiet
run_told s c (x ∷ xs) room =
    ends_told (verdict_due s x room) _ _ (due_told s x room) (run_told (state_after s x) (counts_after c s x room) xs room)
