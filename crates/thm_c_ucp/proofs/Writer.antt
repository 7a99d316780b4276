-- Lists of linked calls of the frame writer are the frame writer's lists in numbers. Assumes nothing.
use mathlib.Core.Path.{◌≡◌, refl, sym, ap, ap₂, ◌∙◌}
use mathlib.Core.List.{List, [], ◌∷◌, ◌++◌, map}
use mathlib.Core.Logic.{◌⊎◌, inl, inr}
use Prim.Native.Nat.{ℕ, ◌≤◌}
use native.Mathlib.Omega.{arith}
use borrow.Author.Tests.{ne_eqb}
use lib.ListN.{length}
use mathlib.Core.Bool.{Bool, true, false, cond, ◌||◌}
use lib.Dec.{eqb, ltb}
use Rattle.std.specs.Prelude.{Ok, Err}
use Rattle.refusals.specs.Refusals.{refusal_number}
use Rattle.refusals.specs.declared.Refusal.TheVariants as why
use Rattle.output_writing.specs.declared.OstrogoszWritten.{OstrogoszWritten}
use Rattle.output_writing.specs.Writing.{Written, WriterAnswer, refused, wrote, writer_answer, output_after, written_numbers, WritingNumbers}
use Rattle.ucp_frame.specs.Frame.{frame, frames_of, longest_body}
use Rattle.ucp_writer.specs.Room.{frame_due}
use Rattle.ucp_writer.specs.Writes.{WritesFrame}
use Rattle.ucp_writer.specs.Refusals.{WrongBodyLength}
use Rattle.ucp_writer.proofs.room.Due.{accepted_so, refused_so, refused_7, refused_8}
use Rattle.c_ucp_frames.specs.Frames.{WritesFrameNumbers}
use Rattle.thm_ucp_writer.specs.Calls.{WriterCall, adds, accepts, line_octets, accepted_bodies}
use Rattle.thm_ucp_writer.proofs.Calls.{writer_lists}
use Rattle.thm_c_ucp.specs.Writer.{LinkedWrite, LinkedWrites, write_in_numbers, AreWrites, LinkedWriter, linked_adds, linked_accepts, linked_octets, linked_bodies, FrameRefusals, LinkedWriterRefuses, LinkedWriterLists}

-- ---- the calls that the numbers stand for

-- a frame writer refuses with 7 and 8 alone
abbrev written_as : WriterAnswer → Written
written_as (refused number) = cond (eqb number 7) (Err why.BodyLength) (Err why.OutputLength)
written_as (wrote octets) = Ok octets

abbrev Back : WriterAnswer → Type 0
Back a = writer_answer (written_as a) ≡ a

back_either : (t : Bool) (x y : WriterAnswer) → Back x → Back y → Back (cond t x y)
back_either true x y p q = p
back_either false x y p q = q

written_back : (body output : List ℕ) → Back (frame_due body output)
unfolding frame_due
written_back body output =
    back_either (eqb (length body) 0 || ltb longest_body (length body)) _ _ refl (back_either (ltb (length output) (length (frame body))) _ _ refl refl)

module _ (w : LinkedWrite) (m : WritesFrameNumbers w.body w.output w.given w.after) where
  abbrev due : WriterAnswer
  due = frame_due w.body w.output

  abbrev call : WriterCall
  call =
      record {
        body = w.body;
        output = w.output;
        answer = written_as due;
        after = w.after;
        writes =
            record {
              answers = written_back w.body w.output;
              leaves = m.leaves ∙ ap (output_after (frame w.body) w.output) (sym (written_back w.body w.output));
            };
      }

  call_same : write_in_numbers call ≡ w
  call_same =
      λ i.
      record {
        body = w.body;
        output = w.output;
        given = (ap written_numbers (written_back w.body w.output) ∙ sym m.answers) i;
        after = w.after;
      }

are_writes : (ws : List LinkedWrite) → LinkedWrites ws → AreWrites ws
are_writes [] m = record { called = []; same = refl }
are_writes (w ∷ ws) m =
    let rest = are_writes ws m.1 in
    record { called = call w m.0 ∷ rest.called; same = λ i. call_same w m.0 i ∷ rest.same i }

of_writes : (cs : List WriterCall) → LinkedWrites (map write_in_numbers cs)
of_writes [] = tt
of_writes (c ∷ cs) = (
  record {
    answers = ap written_numbers c.writes.answers;
    leaves = c.writes.leaves ∙ ap (output_after (frame c.body) c.output) c.writes.answers;
  },
  of_writes cs,
)

pub linked_writer : LinkedWriter
linked_writer = record { are_writes = are_writes; of_writes = of_writes }

-- ---- the line's octets and the accepted bodies

no_zero : (number : ℕ) → (number ≡ 7) ⊎ (number ≡ 8) → number ≡ 0 → ⊥
no_zero number (inl e) z = omega arith
no_zero number (inr e) z = omega arith

abbrev numbers_of : Written → OstrogoszWritten
numbers_of r = written_numbers (writer_answer r)

one_adds : (body output : List ℕ) (r : Written) (after : List ℕ) → WritesFrame body output r after
    → (linked_adds (numbers_of r) after ≡ adds r after) × (linked_accepts (numbers_of r) body ≡ accepts r body)
one_adds body output (Ok octets) after w = (refl, refl)
one_adds body output (Err refusal) after w =
    let number = refusal_number refusal in
    let n = ne_eqb number 0 (no_zero number (refused_so body output number w.answers)) in
    (rw n, rw n)

octets_same : (cs : List WriterCall) → linked_octets (map write_in_numbers cs) ≡ line_octets cs
unfolding line_octets
octets_same [] = refl
octets_same (c ∷ cs) =
    ap₂ (λ (l m : List ℕ). l ++ m) (one_adds c.body c.output c.answer c.after c.writes).0 (octets_same cs)

bodies_same : (cs : List WriterCall) → linked_bodies (map write_in_numbers cs) ≡ accepted_bodies cs
unfolding accepted_bodies
bodies_same [] = refl
bodies_same (c ∷ cs) =
    ap₂ (λ (l m : List (List ℕ)). l ++ m) (one_adds c.body c.output c.answer c.after c.writes).1 (bodies_same cs)

-- the frame writer's calls of a linked list, with the same octets and bodies
record Same (ws : List LinkedWrite) : Type 0 where
  calls : List WriterCall
  octets : linked_octets ws ≡ line_octets calls
  bodies : linked_bodies ws ≡ accepted_bodies calls

same_calls : (ws : List LinkedWrite) → LinkedWrites ws → Same ws
same_calls ws m =
    let a = are_writes ws m in
    record {
      calls = a.called;
      octets = ap linked_octets (sym a.same) ∙ octets_same a.called;
      bodies = ap linked_bodies (sym a.same) ∙ bodies_same a.called;
    }

-- ---- one call

module _ (body output : List ℕ) (given : OstrogoszWritten) (after : List ℕ) where
  clash : {C : Type 0} → WrongBodyLength body → 1 ≤ length body → length body ≤ longest_body → C
  clash (inl none) least most = absurd (omega arith)
  clash (inr many) least most = absurd (omega arith)

  framed : (due : WriterAnswer) → frame_due body output ≡ due → given ≡ written_numbers due → after ≡ output_after (frame body) output due
      → FrameRefusals body output given after
  framed (refused number) e a l = go (refused_so body output number (sym e))
    where
      is_refused : given.refusal ≡ number
      is_refused = ap (λ (o : OstrogoszWritten). o.refusal) a

      go : (number ≡ 7) ⊎ (number ≡ 8) → FrameRefusals body output given after
      go (inl n) =
          let r : given.refusal ≡ 7 = is_refused ∙ n in
          let c = (refused_7 body output).0 (e ∙ ap refused n) in
          record {
            refuses7 = (λ h. c, λ h. r);
            refuses8 = (λ h. absurd (omega arith), λ h. clash c h.0 h.1);
            accepts = (λ h. absurd (omega arith), λ h. clash c h.0 h.1);
            no_other = inr (inl r);
            writes = λ h. absurd (omega arith);
            leaves = λ h. (ap (λ (o : OstrogoszWritten). o.length) a, l);
          }
      go (inr n) =
          let r : given.refusal ≡ 8 = is_refused ∙ n in
          let c = (refused_8 body output).0 (e ∙ ap refused n) in
          record {
            refuses7 = (λ h. absurd (omega arith), λ h. clash h c.0 c.1);
            refuses8 = (λ h. c, λ h. r);
            accepts = (λ h. absurd (omega arith), λ h. absurd (omega (arith, h.2, c.2)));
            no_other = inr (inr r);
            writes = λ h. absurd (omega arith);
            leaves = λ h. (ap (λ (o : OstrogoszWritten). o.length) a, l);
          }
  framed (wrote octets) e a l =
      let r : given.refusal ≡ 0 = ap (λ (o : OstrogoszWritten). o.refusal) a in
      let c = accepted_so body output octets (sym e) in
      record {
        refuses7 = (λ h. absurd (omega arith), λ h. clash h c.least c.most);
        refuses8 = (λ h. absurd (omega arith), λ h. absurd (omega (arith, h.2, c.room)));
        accepts = (λ h. (c.least, c.most, c.room), λ h. r);
        no_other = inl r;
        writes = λ h. rw c.exact (ap (λ (o : OstrogoszWritten). o.length) a, l);
        leaves = λ h. absurd (h r);
      }

  pub frame_refusals : WritingNumbers (frame_due body output) (frame body) output given after → FrameRefusals body output given after
  frame_refusals call = framed (frame_due body output) refl call.answers call.leaves

pub linked_writer_refuses : LinkedWriterRefuses
linked_writer_refuses body output after given call = frame_refusals body output given after call

-- ---- whole lists

pub linked_writer_lists : LinkedWriterLists
linked_writer_lists =
    record {
      answers = λ w m. m.0.answers;
      frames = λ ws m.
          let s = same_calls ws m in
          s.octets ∙ writer_lists.frames s.calls ∙ ap frames_of (sym s.bodies);
      differ = λ xs ys m n bodies.
          let s = same_calls xs m in
          let t = same_calls ys n in
          rw (s.octets, t.octets)
          (writer_lists.differ s.calls t.calls (λ e. bodies (s.bodies ∙ e ∙ sym t.bodies)));
    }
