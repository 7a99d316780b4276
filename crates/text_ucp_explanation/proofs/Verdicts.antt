-- The verdict that an answer of the receiver stands for, read from the room. Assumes nothing.
use mathlib.Core.Path.{◌≡◌, refl, ap, ◌∙◌}
use mathlib.Core.List.{List}
use Prim.Native.Nat.{ℕ}
use native.Mathlib.Omega.{arith}
use lib.ListN.{length, take, drop, length-append}
use lib.Seq.{take-append_seam}
use Rattle.ucp_frame.specs.Stretch.{Verdict, silent, refused, delivered}
use Rattle.ucp_receiver.specs.declared.Record.{Record}
use Rattle.ucp_receiver.specs.declared.Taken.{Taken}
use Rattle.std.proofs.Common.{None, Some, Ok, Err}
use Rattle.ucp_receiver.specs.Answers.{Answer, verdict_of, ReceiverAnswer, nothing, refusal, body, receiver_answer, answer_for, output_at_flag}
use Rattle.ucp_receiver.specs.Octet.{state_of}
use Rattle.ucp_receiver.specs.Slice.{Takes, SliceRun, slice_run}
use Rattle.text_ucp_listing.specs.Listing.{body_room}
use Rattle.text_ucp_explanation.proofs.Longest.{BodyFits}

abbrev verdict_answered : ReceiverAnswer → List ℕ → Verdict
verdict_answered nothing room = silent
verdict_answered (refusal number) room = refused number
verdict_answered (body octets) room = delivered (take octets room)

of_answer : (a : Answer) (room : List ℕ) → verdict_of a room ≡ verdict_answered (receiver_answer a) room
of_answer None room = refl
of_answer (Some (Err why)) room = refl
of_answer (Some (Ok octets)) room = refl

answer_back : (v : Verdict) (before : List ℕ) {after : List ℕ} → after ≡ output_at_flag v before → verdict_answered (answer_for v) after ≡ v
answer_back silent before f = refl
answer_back (refused number) before f = refl
answer_back (delivered octets) before f = ap delivered (rw f (take-append_seam octets (drop (length octets) before)))

put_fits : (v : Verdict) (before : List ℕ) {after : List ℕ} → after ≡ output_at_flag v before → length after ≡ body_room → BodyFits v
put_fits silent before f long = tt
put_fits (refused number) before f long = tt
put_fits (delivered octets) before f long = omega (arith, simp length-append at (ap length f))

module _ {receiver : Record} {store line room : List ℕ} {given : Taken} {store_after room_after : List ℕ}
    (takes : Takes receiver store line room given store_after room_after) (long : length room ≡ body_room) where
  ran : slice_run (state_of receiver.rest store) receiver.counts line (length room) ≡ slice_run (state_of receiver.rest store) receiver.counts line body_room
  ran = rw long

  put : room_after ≡ output_at_flag (slice_run (state_of receiver.rest store) receiver.counts line body_room).verdict room
  put = takes.puts ∙ ap (λ (r : SliceRun). output_at_flag r.verdict room) ran

  pub verdict_answer : verdict_of given.answer room_after ≡ (slice_run (state_of receiver.rest store) receiver.counts line body_room).verdict
  verdict_answer =
      of_answer given.answer room_after
      ∙ ap (λ (t : ReceiverAnswer). verdict_answered t room_after) (takes.answers ∙ ap (λ (r : SliceRun). answer_for r.verdict) ran)
      ∙ answer_back (slice_run (state_of receiver.rest store) receiver.counts line body_room).verdict room put

  pub verdict_fits : length room_after ≡ length room → BodyFits (slice_run (state_of receiver.rest store) receiver.counts line body_room).verdict
  verdict_fits kept = put_fits (slice_run (state_of receiver.rest store) receiver.counts line body_room).verdict room put (kept ∙ long)
