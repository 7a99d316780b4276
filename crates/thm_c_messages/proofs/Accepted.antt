-- What an accepted call of a writer left, and what a reader answers to it. Assumes nothing.
use mathlib.Core.Path.{◌≡◌, refl, sym, ap, ap₂, ◌∙◌}
use mathlib.Core.Bool.{Bool, true, false, cond, ◌&&◌}
use mathlib.Core.List.{List, [], ◌∷◌, ◌++◌}
use Prim.Native.Nat.{ℕ, ◌≤◌, ◌<◌}
use native.Mathlib.Omega.{arith}
use borrow.Author.Tests.{le-ltb, lt-ltb, ltb-true, ltb-false, eqb-true, eq-eqb}
use lib.Dec.{eqb, ltb}
use lib.ListN.{length, get_or, take, drop}
use lib.Seq.{take-append_seam}
use Rattle.field_format.proofs.Conjunction.{both}
use Rattle.output_writing.specs.declared.OstrogoszWritten.{OstrogoszWritten}
use Rattle.output_writing.specs.Writing.{WriterAnswer, refused, wrote, output_after, written_numbers, WritingNumbers}
use Rattle.ucp_answers.specs.Writes.{body_due}
use Rattle.ucp_frame.specs.Frame.{frame}
use Rattle.ucp_writer.specs.Sends.{send_due}
use Rattle.c_lent.specs.Reads.{has_id, refusal_as, FillsStruct}
use Rattle.thm_ucp_receiver.specs.Promises.{BodyLength}
use Rattle.thm_c_messages.specs.Refusals.{SendRefusals}
use Rattle.thm_c_messages.proofs.Refusals.{send_refusals}

-- ---- a writer's call
-- no refusal: the fields fit, and the body is there
pub record Left (fits : Bool) (body : List ℕ) (w : OstrogoszWritten) (after : List ℕ) : Type 0 where
  pub fit : fits ≡ true
  pub whole : take w.length after ≡ body

pub accepted : {fits : Bool} {body output : List ℕ} {w : OstrogoszWritten} {after : List ℕ}
    → WritingNumbers (body_due fits body output) body output w after → w.refusal ≡ 0 → Left fits body w after
unfolding body_due
accepted {fits} {body} {output} {w} {after} call none = go fits (ltb (length output) (length body)) call.answers call.leaves
  where
    go : (f t : Bool) → w ≡ written_numbers (cond f (cond t (refused 8) (wrote (length body))) (refused 13))
        → after ≡ output_after body output (cond f (cond t (refused 8) (wrote (length body))) (refused 13)) → Left f body w after
    go true true e l = absurd (omega (arith, none, ap (λ (o : OstrogoszWritten). o.refusal) e))
    go true false e l =
        record { fit = refl; whole = ap₂ take (ap (λ (o : OstrogoszWritten). o.length) e) l ∙ take-append_seam body (drop (length body) output) }
    go false t e l = absurd (omega (arith, none, ap (λ (o : OstrogoszWritten). o.refusal) e))

-- a body that fits, and has room, is written
pub writes : {fits : Bool} {body output : List ℕ} {w : OstrogoszWritten} {after : List ℕ} (same : List ℕ) → fits ≡ true → body ≡ same
    → length same ≤ length output → WritingNumbers (body_due fits body output) body output w after
    → (w ≡ record { refusal = 0; length = length same }) × (after ≡ same ++ drop (length same) output)
unfolding body_due
writes {fits} {body} {output} {w} {after} same f e room call =
    let due : body_due fits body output ≡ wrote (length same) = rw (f, e, le-ltb (length output) (length same) room) in
    (call.answers ∙ ap written_numbers due, call.leaves ∙ ap₂ (λ (b : List ℕ) (a : WriterAnswer). output_after b output a) e due)

-- ---- a send
-- no refusal: the fields fit, and the body's frame is there
pub record Sent (fits : Bool) (body : List ℕ) (w : OstrogoszWritten) (after : List ℕ) : Type 0 where
  pub fit : fits ≡ true
  pub long : BodyLength body
  pub whole : frame body ≡ take w.length after

pub sent : (fits : Bool) (body buffer : List ℕ) {w : OstrogoszWritten} {after : List ℕ}
    → WritingNumbers (send_due fits body buffer) (frame body) buffer w after → w.refusal ≡ 0 → Sent fits body w after
sent fits body buffer {w} {after} call none = go fits (send_refusals fits body buffer w after call)
  where
    go : (f : Bool) → SendRefusals f body buffer w after → Sent f body w after
    go false so = absurd (omega (arith, none, so.refuses13.1 refl))
    go true so =
        let r = so.frames refl in
        let due = r.accepts.0 none in
        let written = r.writes none in
        record {
          fit = refl;
          long = record { least = due.0; most = due.1 };
          whole = sym (ap₂ take written.0 written.1 ∙ take-append_seam (frame body) (drop (length (frame body)) buffer));
        }

-- ---- a reader's call
-- no refusal is due, and then the struct is filled
pub fills : {due : ℕ} {octets before left : List ℕ} {r : ℕ} → FillsStruct due octets before r left → due ≡ 0 → (r ≡ 0) × (left ≡ octets)
fills call none = (call.answers ∙ none, call.leaves ∙ rw none)

-- a body of the kind, and what it is refused with
pub of_kind : (id : ℕ) (body : List ℕ) (refusal : ℕ) → 0 < length body → get_or body 0 0 ≡ id → refusal ≡ 0 → refusal_as id body refusal ≡ 0
unfolding refusal_as
of_kind id body refusal some is none = rw (lt-ltb 0 (length body) some, eq-eqb _ _ is, none)

pub kind_of : (id : ℕ) (body : List ℕ) (refusal : ℕ) → 0 ≡ refusal_as id body refusal → (get_or body 0 0 ≡ id) × (refusal ≡ 0)
unfolding refusal_as
kind_of id body refusal = go (has_id id body) refl
  where
    go : (own : Bool) → has_id id body ≡ own → 0 ≡ cond own refusal 10 → (get_or body 0 0 ≡ id) × (refusal ≡ 0)
    go true h e = (eqb-true _ _ (both (ltb 0 (length body)) (eqb (get_or body 0 0) id) h).1, sym e)
    go false h e = absurd (omega arith)
