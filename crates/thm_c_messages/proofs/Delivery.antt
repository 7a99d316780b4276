-- Either line delivers every frame. Assumes nothing.
use mathlib.Core.Path.{◌≡◌, sym, subst}
use mathlib.Core.List.{List}
use Prim.Native.Nat.{ℕ}
use native.Mathlib.Omega.{arith}
use borrow.Author.Tests.{le-ltb}
use lib.ListN.{length}
use Rattle.ucp_frame.specs.Frame.{frame}
use Rattle.ucp_frame.specs.Stretch.{delivered}
use Rattle.thm_ucp_messages.proofs.Delivery.{put_out}
use Rattle.thm_ucp_receiver.specs.Promises.{AnswersAs, BodyLength}
use Rattle.thm_ucp_receiver.proofs.Frames.{frame_is_put_out}
use Rattle.thm_c_messages.specs.Delivery.{Delivering, DeliversOnLine}

-- a frame on the line is delivered: where its body meets `Use`, what is put out does
abbrev pub DeliversFrames : Delivering → Type 1
DeliversFrames Delivers = (body : List ℕ) (Use : List ℕ → Type 0) → BodyLength body → Use body → Delivers (frame body) body Use

pub frame_delivered : DeliversFrames DeliversOnLine
frame_delivered body Use long so before later o line ends room =
    let heard = frame_is_put_out before later o body line long ends in
    let a : AnswersAs (delivered body) o = rw (le-ltb (length o.output) (length body) (omega (arith, long.most, room))) at heard in
    (a, subst Use (sym (put_out body o a)) so)
