-- The line of a list of calls is the line of the bodies that it accepts, and that decodes in one way only.
-- Assumes nothing.
use mathlib.Core.Path.{◌≡◌, refl, sym, ap, ap₂, ◌∙◌}
use mathlib.Core.List.{List, [], ◌∷◌, ◌++◌, append_assoc, append-nil}
use Prim.Native.Nat.{ℕ}
use lib.ListN.{take, drop}
use lib.Seq.{take_at}
use Rattle.ucp_frame.specs.Frame.{frame, frames_of}
use Rattle.ucp_frame.proofs.Frame.{frames_injective}
use Rattle.std.specs.Prelude.{Ok, Err}
use Rattle.output_writing.specs.Writing.{Written}
use Rattle.ucp_writer.specs.Writes.{WritesFrame}
use Rattle.ucp_writer.proofs.room.Due.{accepted_so}
use Rattle.thm_ucp_writer.specs.Calls.{WriterCall, adds, accepts, line_octets, accepted_bodies, WriterLists}
use Rattle.thm_ucp_writer.proofs.Differ.{differ_so}

-- what one call adds to the line is the line of what it accepts
one : (body output : List ℕ) (answer : Written) (after : List ℕ) → WritesFrame body output answer after
    → adds answer after ≡ frames_of (accepts answer body)
unfolding frames_of
one body output (Err refusal) after w = refl
one body output (Ok octets) after w =
    ap (take octets) w.leaves
    ∙ take_at (frame body) (drop octets output) octets (accepted_so body output octets w.answers).exact
    ∙ sym (append-nil (frame body))

line_of_append : (xs ys : List (List ℕ)) → frames_of (xs ++ ys) ≡ frames_of xs ++ frames_of ys
unfolding frames_of
line_of_append [] ys = refl
line_of_append (x ∷ xs) ys =
    ap (λ (l : List ℕ). frame x ++ l) (line_of_append xs ys) ∙ sym (append_assoc (frame x) (frames_of xs) (frames_of ys))

line_of_bodies : (cs : List WriterCall) → line_octets cs ≡ frames_of (accepted_bodies cs)
unfolding line_octets accepted_bodies frames_of
line_of_bodies [] = refl
line_of_bodies (c ∷ cs) =
    ap₂ (λ (l m : List ℕ). l ++ m) (one c.body c.output c.answer c.after c.writes) (line_of_bodies cs)
    ∙ sym (line_of_append (accepts c.answer c.body) (accepted_bodies cs))

apart_lines : (xs ys : List WriterCall) → (accepted_bodies xs ≡ accepted_bodies ys → ⊥) → line_octets xs ≡ line_octets ys → ⊥
apart_lines xs ys differ e = differ (frames_injective _ _ (sym (line_of_bodies xs) ∙ e ∙ line_of_bodies ys))

pub writer_lists : WriterLists
writer_lists =
    record {
      answers = λ c. c.writes.answers;
      frames = line_of_bodies;
      apart = apart_lines;
      differ = λ xs ys bodies. differ_so (line_octets xs) (line_octets ys) (apart_lines xs ys bodies);
    }
