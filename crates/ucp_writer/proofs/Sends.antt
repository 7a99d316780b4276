-- A body's writer, and then framing in place, make up a send. Assumes nothing.
use mathlib.Core.Path.{◌≡◌, refl, sym, ◌∙◌, ap, subst}
use mathlib.Core.Bool.{Bool, true, false}
use mathlib.Core.List.{List, [], ◌∷◌, ◌++◌}
use mathlib.Core.Logic.{inl}
use Prim.Native.Nat.{ℕ, ◌+◌, ◌-◌, ◌≤◌, ◌<◌}
use native.Mathlib.Omega.{arith}
use borrow.Author.Tests.{le-ltb}
use lib.ListN.{length, take, drop, length-append}
use lib.Seq.{take-append_seam, drop-append-add, drop-drop}
use Rattle.crc_gdl90.specs.Check.{frame_check_octets}
use Rattle.ucp_frame.specs.Frame.{flag, stuffed, frame, longest_body, longest_frame}
use Rattle.ucp_frame.proofs.Stuffing.{stuffed_length_least}
use Rattle.ucp_frame.proofs.Frame.{frame_length_longest}
use Rattle.ucp_answers.specs.Writes.{body_due, WritesBody}
use Rattle.std.specs.Prelude.{Ok, Err}
use Rattle.refusals.specs.declared.Refusal.{Refusal}
use Rattle.output_writing.specs.Writing.{Written, WriterAnswer, refused, wrote, writer_answer, output_after, written_numbers}
use Rattle.ucp_writer.specs.Room.{frame_due}
use Rattle.ucp_writer.specs.Writes.{FramesInPlace}
use Rattle.ucp_writer.specs.Sends.{send_due, SendsBody}
use Rattle.ucp_writer.proofs.room.Due.{due_accepted}

-- a body that may be sent, if its fields fit
abbrev pub Sendable : Bool → List ℕ → Type 0
Sendable fits body = fits ≡ true → (1 ≤ length body) × (length body ≤ longest_body)

-- a writer's answer once its body is framed: its refusal, or how many octets the frame has
abbrev pub framed_as : WriterAnswer → ℕ → WriterAnswer
framed_as (refused number) given = refused number
framed_as (wrote octets) given = wrote given

-- how many octets the writer wrote
abbrev pub octets_of : WriterAnswer → ℕ
octets_of a = (written_numbers a).length

-- the same of framing
abbrev pub octets_in : Written → ℕ
octets_in answer = octets_of (writer_answer answer)

frame_longer : (body : List ℕ) → length body < length (frame body)
unfolding frame
frame_longer body =
    omega (
      arith,
      stuffed_length_least (body ++ frame_check_octets body),
      length-append body (frame_check_octets body),
      length-append (stuffed (body ++ frame_check_octets body)) (flag ∷ []),
    )

-- what is behind a frame was behind its body
behind : (body buffer : List ℕ) → drop (length (frame body)) (body ++ drop (length body) buffer) ≡ drop (length (frame body)) buffer
behind body buffer =
    let k = length (frame body) - length body in
    let e : length (frame body) ≡ length body + k = omega (arith, frame_longer body) in
    ap (λ (n : ℕ). drop n (body ++ drop (length body) buffer)) e ∙ drop-append-add body (drop (length body) buffer) k
    ∙ drop-drop k (length body) buffer ∙ ap (λ (n : ℕ). drop n buffer) (sym e)

module _ (body buffer : List ℕ) (n : length buffer ≡ longest_frame) where
  -- a body that may be sent is written, and its frame has room
  written : Sendable true body → body_due true body buffer ≡ wrote (length body)
  unfolding body_due
  written ok = let fit = ok refl in rw (le-ltb (length buffer) (length body) (omega (arith, fit, n)))

  sent_due : Sendable true body → frame_due body buffer ≡ wrote (length (frame body))
  sent_due ok = let fit = ok refl in due_accepted body buffer fit.0 fit.1 (omega (arith, frame_length_longest body fit.1, n))

  -- framing what the body's writer left answers and leaves what a send does
  framed_so : Sendable true body → {answer : Written} {after : List ℕ}
      → FramesInPlace (body ++ drop (length body) buffer) (length body) answer after
      → (answer ≡ Ok (length (frame body))) × (after ≡ frame body ++ drop (length (frame body)) buffer)
  framed_so ok f =
      let fit = ok refl in
      let p = f.frames fit.0 fit.1 in
      let mid : List ℕ = body ++ drop (length body) buffer in
      let whole : take (length body) mid ≡ body = take-append_seam body (drop (length body) buffer) in (
        p.0 ∙ ap (λ (l : List ℕ). Ok (length (frame l))) whole,
        p.1 ∙ ap (λ (l : List ℕ). frame l ++ drop (length (frame l)) mid) whole ∙ ap (λ (l : List ℕ). frame body ++ l) (behind body buffer),
      )

  -- what both halves answer, and leave in the buffer
  abbrev pub Sent : Bool → Written → List ℕ → Type 0
  Sent fits answer after =
      (framed_as (body_due fits body buffer) (octets_in answer) ≡ send_due fits body buffer)
      × (after ≡ output_after (frame body) buffer (send_due fits body buffer))
      × (octets_in answer ≡ octets_of (send_due fits body buffer))

  pub sent : (fits : Bool) → Sendable fits body → {answer : Written} {after : List ℕ}
      → FramesInPlace (output_after body buffer (body_due fits body buffer)) (octets_of (body_due fits body buffer)) answer after
      → Sent fits answer after
  unfolding body_due send_due
  sent false ok f = let p = f.leaves (inl refl) in (refl, p.1, ap octets_in p.0)
  sent true ok {answer} {after} f =
      let due = sent_due ok in
      let g : FramesInPlace (body ++ drop (length body) buffer) (length body) answer after =
      subst (λ (a : WriterAnswer). FramesInPlace (output_after body buffer a) (octets_of a) answer after) (written ok) f in
      let p = framed_so ok g in (
        ap (λ (a : WriterAnswer). framed_as a (octets_in answer)) (written ok) ∙ ap (λ (a : Written). wrote (octets_in a)) p.0 ∙ sym due,
        p.1 ∙ sym (ap (output_after (frame body) buffer) due),
        ap octets_in p.0 ∙ sym (ap octets_of due),
      )

  -- the body's writer refused: then its fields do not fit, and a send refuses it so
  pub send_refused : (fits : Bool) → Sendable fits body → {refusal : Refusal} {mid : List ℕ}
      → WritesBody fits body buffer (Err refusal) mid → SendsBody fits body buffer (Err refusal) mid
  unfolding body_due send_due
  send_refused false ok w = record { answers = w.answers; leaves = w.leaves }
  send_refused true ok w = cc (w.answers ∙ written ok)

  -- the body's writer wrote it, and then framing makes up the send
  pub send_framed : (fits : Bool) → Sendable fits body → {octets : ℕ} {mid after : List ℕ} {answer : Written}
      → WritesBody fits body buffer (Ok octets) mid → FramesInPlace mid octets answer after → SendsBody fits body buffer answer after
  unfolding body_due send_due
  send_framed false ok w f = cc (w.answers)
  send_framed true ok {octets} {mid} {after} {answer} w f =
      let size : octets ≡ length body = cc (w.answers ∙ written ok) in
      let g : FramesInPlace (body ++ drop (length body) buffer) (length body) answer after =
      subst (λ (k : ℕ). FramesInPlace (body ++ drop k buffer) k answer after) size
      (subst (λ (l : List ℕ). FramesInPlace l octets answer after) w.leaves f) in
      let p = framed_so ok g in
      rw p.0 (record { answers = sym (sent_due ok); leaves = p.1 })
