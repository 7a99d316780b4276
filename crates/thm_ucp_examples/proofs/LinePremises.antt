-- The premises of lines, slices and writers are met, by computation. Assumes nothing.
use mathlib.Core.Path.{◌≡◌, refl, ap, ◌∙◌}
use mathlib.Core.List.{List, [], ◌∷◌, ◌++◌}
use Prim.Native.Nat.{ℕ}
use native.Mathlib.Omega.{arith}
use lib.ListN.{get_or, replicate}
use Rattle.crc_polynomial.specs.Polynomial.{bits_of_octets, bits_of, divided, step, reduced}
use Rattle.crc_gdl90.specs.Check.{frame_check}
use Rattle.ucp_frame.specs.Frame.{escaped, stuffed, frame}
use Rattle.ucp_frame.specs.Stretch.{unstuffed, at_flag, judged, verdict}
use Rattle.ucp_history.specs.History.{cut_at_flags, open_stretch, answer}
use Rattle.ucp_receiver.specs.Octet.{storing, state_after, verdict_due, counts_after}
use Rattle.ucp_receiver.specs.Slice.{slice_run}
use Rattle.std.specs.Prelude.{Ok, Err}
use Rattle.refusals.specs.declared.Refusal.TheVariants as why
use Rattle.output_writing.specs.Writing.{Written}
use Rattle.ucp_writer.specs.Room.{frame_due}
use Rattle.ucp_writer.specs.Writes.{WritesFrame}
use Rattle.crc_gdl90_strength.proofs.Premises.{octets}
use Rattle.thm_ucp_receiver.proofs.Lines.{every_line}
use Rattle.thm_ucp_writer.specs.Calls.{WriterCall, line_octets, accepted_bodies}
use Rattle.thm_ucp_examples.specs.LinePremises.{short_body, before_frame, short_frame, writer_output, first_slice, second_slice, EndsInMet, StretchMet, SliceLineMet, WriterCallMet}

-- ---- the last octet of a line

abbrev last_octet : List ℕ → ℕ
last_octet [] = 0
last_octet (x ∷ []) = x
last_octet (x ∷ y ∷ ys) = last_octet (y ∷ ys)

last_behind : (xs : List ℕ) (y : ℕ) (ys : List ℕ) → last_octet (xs ++ y ∷ ys) ≡ last_octet (y ∷ ys)
last_behind [] y ys = refl
last_behind (x ∷ []) y ys = refl
last_behind (x ∷ z ∷ zs) y ys = last_behind (z ∷ zs) y ys

pub ends_in_met : EndsInMet
unfolding bits_of_octets bits_of divided step reduced frame_check escaped stuffed frame unstuffed at_flag judged verdict cut_at_flags open_stretch answer
ends_in_met =
    record {
      body_length = record { least = omega arith; most = omega arith };
      shortest = record { least = omega arith; most = omega arith };
      longest = record { least = omega arith; most = omega arith };
      not_empty = λ b. omega (arith, b.least);
      not_longer = λ b. omega (arith, b.most);
      ends = record { earlier = before_frame; parts = refl };
      line = every_line _ (octets (before_frame ++ frame short_body) refl);
      answered = refl;
      not_behind = λ e.
          let z : ◌≡◌ {A = ℕ} 0x2C 0x7E = ap last_octet e.parts ∙ last_behind e.earlier 0x7E (0x2C ∷ 0x01 ∷ 0x01 ∷ 0x2C ∷ 0x7E ∷ []) in
          omega arith;
      carries = record { earlier = []; parts = refl };
      wrong_check = refl;
    }

pub stretch_met : StretchMet
unfolding cut_at_flags open_stretch
stretch_met = record { hunts = refl; hunted = refl; two_octets = refl; one_octet = refl; no_octet = refl }

pub slice_line_met : SliceLineMet
unfolding bits_of_octets bits_of divided step reduced frame_check at_flag slice_run state_after verdict_due counts_after storing
slice_line_met =
    record {
      line = (
        (octets first_slice.line refl, record { state = refl; account = refl; taken = refl; answers = refl; puts = refl }),
        ((octets second_slice.line refl, record { state = refl; account = refl; taken = refl; answers = refl; puts = refl }), tt),
      );
      ends_in_flag = refl;
      not_alone = λ l. let z : ◌≡◌ {A = ℕ} 3 4 = l.0.1.taken in omega arith;
    }

abbrev called : (body output : List ℕ) (answer : Written) (after : List ℕ) → WritesFrame body output answer after → WriterCall
called body output answer after w = record { body = body; output = output; answer = answer; after = after; writes = w }

pub writer_call_met : WriterCallMet
unfolding bits_of_octets bits_of divided step reduced frame_check escaped stuffed frame frame_due line_octets accepted_bodies
writer_call_met =
    record {
      accepted = record { answers = refl; leaves = refl };
      no_body = record { answers = refl; leaves = refl };
      no_room = record { answers = refl; leaves = refl };
      not_unwritten = λ w. let z : ◌≡◌ {A = ℕ} 0xAA 0x7E = ap (λ (l : List ℕ). get_or l 0 0) w.leaves in omega arith;
      calls = called short_body writer_output (Ok 6) (short_frame ++ (0xAA ∷ [])) (record { answers = refl; leaves = refl })
          ∷ called [] writer_output (Err why.BodyLength) writer_output (record { answers = refl; leaves = refl })
          ∷ called short_body (replicate 5 0xAA) (Err why.OutputLength) (replicate 5 0xAA) (record { answers = refl; leaves = refl })
          ∷ [];
      bodies = refl;
      line = refl;
      taken = refl;
    }
