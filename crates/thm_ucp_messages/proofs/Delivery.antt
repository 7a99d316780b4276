-- A message that is sent is delivered, and means the same; a frame delivered writes back to the same octets. Assumes nothing.
use mathlib.Core.Path.{◌≡◌, refl, sym, ap, ◌∙◌}
use mathlib.Core.Bool.{Bool, true, false}
use mathlib.Core.List.{List, ◌∷◌, ◌++◌}
use Prim.Native.Nat.{ℕ, ◌≤◌}
use native.Mathlib.Omega.{arith}
use borrow.Author.Tests.{le-ltb}
use lib.ListN.{length, take, drop}
use lib.Seq.{take_at, take-append_seam}
use Rattle.ucp_frame.specs.Frame.{frame, longest_body}
use Rattle.ucp_frame.specs.Stretch.{delivered}
use Rattle.ucp_writer.specs.Room.{frame_due}
use Rattle.ucp_writer.proofs.room.Due.{accepted_so, due_accepted}
use Rattle.thm_ucp_messages.proofs.ReadBack.{body_means}
use Rattle.thm_ucp_receiver.specs.Line.{Observed, up_to, Line}
use Rattle.thm_ucp_receiver.specs.Promises.{AnswersAs, EndsIn, frame_answer}
use Rattle.thm_ucp_receiver.proofs.Frames.{frame_is_put_out, put_out_is_frame}
use Rattle.ucp_messages.specs.Messages.{message_due, message_fits, message_body}
use Rattle.ucp_writer.specs.Sends.{send_due}
use Rattle.output_writing.specs.Writing.{wrote, output_after}
use Rattle.thm_ucp_messages.specs.Delivery.{SentIsDelivered, DeliveredWritesBack}

-- an accepted send: the fields fit, and the frame writer accepted the body
accepted : (fits : Bool) (body buffer : List ℕ) (octets : ℕ) → send_due fits body buffer ≡ wrote octets
    → (fits ≡ true) × (wrote octets ≡ frame_due body buffer)
unfolding send_due
accepted true body buffer octets e = (refl, sym e)
accepted false body buffer octets e = let z : ◌≡◌ {A = ℕ} 0 1 = cc in absurd (omega arith)

-- a line that ends in what it wrote delivers the body
pub sent_body : (fits : Bool) (body buffer : List ℕ) {after : List ℕ} {octets : ℕ} → send_due fits body buffer ≡ wrote octets
    → after ≡ output_after (frame body) buffer (wrote octets)
    → (before later : List Observed) (o : Observed) → Line (before ++ o ∷ later)
    → EndsIn (take octets after) (up_to before o) → longest_body ≤ length o.output
    → (fits ≡ true) × AnswersAs (delivered body) o
sent_body fits body buffer {after} {octets} e leaves before later o line ends room =
    let p = accepted fits body buffer octets e in
    let a = accepted_so body buffer octets p.1 in
    let whole : take octets after ≡ frame body = ap (take octets) leaves ∙ take_at (frame body) (drop octets buffer) octets a.exact in
    let heard : AnswersAs (frame_answer body (length o.output)) o =
    frame_is_put_out before later o body line (record { least = a.least; most = a.most })
    (rw (← whole) ends) in
    (p.0, rw (le-ltb (length o.output) (length body) (omega (arith, a.most, room))) at heard)

-- the octets that a call delivered
pub put_out : (body : List ℕ) (o : Observed) → AnswersAs (delivered body) o → take (length body) o.output_then ≡ body
put_out body o a = ap (take (length body)) a.puts ∙ take-append_seam body (drop (length body) o.output)

pub sent_is_delivered : SentIsDelivered
sent_is_delivered m payload buffer after r octets t s e before later o line ends room =
    let d = sent_body (message_fits m payload) (message_body m payload) buffer (sym s.answers ∙ e) (s.leaves ∙ ap (output_after (frame (message_body m payload)) buffer) e) before later o line ends room in
    (d.1, λ given reading. reading ∙ ap message_due (put_out (message_body m payload) o d.1) ∙ body_means m payload t d.0)

pub delivered_writes_back : DeliveredWritesBack
delivered_writes_back before after o octets line e output then w call =
    let body : List ℕ = take octets o.output_then in
    let p = put_out_is_frame before after o octets line e in (
      λ room. call.answers ∙ due_accepted body output p.1.least p.1.most room,
      λ n is.
          let a = accepted_so body output n (sym is ∙ call.answers) in
          rw (ap (take n) (call.leaves ∙ ap (output_after (frame body) output) is) ∙ take_at (frame body) (drop n output) n a.exact) p.0,
    )
