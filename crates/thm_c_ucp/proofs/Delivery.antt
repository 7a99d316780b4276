-- A frame on a linked line is delivered, and a frame delivered writes back to the same octets. Assumes nothing.
use mathlib.Core.Path.{◌≡◌, sym, ap, ap₂, subst, ◌∙◌}
use mathlib.Core.List.{List}
use Prim.Native.Nat.{ℕ}
use native.Mathlib.Omega.{arith}
use borrow.Author.Tests.{le-ltb}
use lib.ListN.{length, take, drop}
use lib.Seq.{take-append_seam}
use Rattle.ucp_frame.specs.Frame.{frame}
use Rattle.ucp_frame.specs.Stretch.{delivered}
use Rattle.output_writing.specs.Writing.{written_numbers}
use Rattle.ucp_writer.proofs.room.Due.{due_accepted}
use Rattle.thm_ucp_receiver.specs.Promises.{EndsIn, BodyLength}
use Rattle.thm_c_ucp.specs.Receiver.{LinkedCall, linked_up_to, LinkedAnswersAs}
use Rattle.thm_c_ucp.specs.Delivery.{DeliversLinked, LinkedDeliveredWritesBack}
use Rattle.thm_c_ucp.proofs.Receiver.{linked_put_out_is_frame, linked_frame_is_put_out}
use Rattle.thm_c_ucp.proofs.Writer.{linked_writer_refuses}

-- the octets that a call delivered
put_out_linked : (body : List ℕ) (c : LinkedCall) → LinkedAnswersAs (delivered body) c → take c.value c.output_then ≡ body
put_out_linked body c a = ap₂ take a.value a.puts ∙ take-append_seam body (drop (length body) c.output)

pub frame_delivered_linked : (body : List ℕ) (Use : List ℕ → Type 0) → BodyLength body → Use body → DeliversLinked (frame body) body Use
frame_delivered_linked body Use long so before later c line ends room =
    let heard = linked_frame_is_put_out before later c body line long ends in
    let a : LinkedAnswersAs (delivered body) c = rw (le-ltb (length c.output) (length body) (omega (arith, long.most, room))) at heard in
    (a, subst Use (sym (put_out_linked body c a)) so)

pub linked_delivered_writes_back : LinkedDeliveredWritesBack
linked_delivered_writes_back before after c line k output then w call =
    let p = linked_put_out_is_frame before after c line k in
    let body : List ℕ = take c.value c.output_then in
    let r = linked_writer_refuses body output then w call in (
      λ room. call.answers ∙ ap written_numbers (due_accepted body output p.1.least p.1.most room),
      λ none.
          let written = r.writes none in
          subst (λ (octets : List ℕ). EndsIn octets (linked_up_to before c))
          (sym (ap₂ take written.0 written.1 ∙ take-append_seam (frame body) (drop (length (frame body)) output))) p.0,
    )
