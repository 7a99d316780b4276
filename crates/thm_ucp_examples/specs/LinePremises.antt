-- Calls that meet the premises of what is said of lines, slices and writers, and calls beside them that don't: a premise that is read
-- otherwise makes one of these fail. Assumes nothing.
use Rattle.std.specs.Prelude.{◌≡◌, List, [], ◌∷◌, ◌++◌, map, ℕ, ◌-◌, length, take, replicate, None, Some, Ok, Err}
use Rattle.refusals.specs.Numbers as because
use Rattle.refusals.specs.declared.Refusal.TheVariants as why
use Rattle.ucp_frame.specs.Frame.{frame}
use Rattle.ucp_frame.specs.Stretch.{delivered, refused, store_octets}
use Rattle.ucp_history.specs.History.{cut_at_flags, open_stretch, answer}
use Rattle.ucp_receiver.specs.Answers.{Answer}
use Rattle.ucp_receiver.specs.declared.Counts.{Counts}
use Rattle.ucp_receiver.specs.declared.Phase.TheVariants.{Reading}
use Rattle.ucp_writer.specs.Writes.{WritesFrame}
use Rattle.thm_ucp_receiver.specs.Lines.{Handed, LineOver}
use Rattle.thm_ucp_receiver.specs.Promises.{EndsIn, BodyLength, carrying}
use Rattle.thm_ucp_receiver.specs.Slice.{ObservedSlice, SliceLine}
use Rattle.thm_ucp_writer.specs.Calls.{WriterCall, line_octets, accepted_bodies}
use Rattle.thm_ucp_examples.specs.Examples.{call}

-- ---- a line that ends in a frame

abbrev pub short_body : List ℕ
short_body = 0x2C ∷ 0x01 ∷ []

-- an octet before the first flag, two flags, and then the frame, whose first flag closes the stretch before it
abbrev pub before_frame : List ℕ
before_frame = 0x55 ∷ 0x7E ∷ 0x01 ∷ []

-- the same octets on the line, each call with an output of its own
abbrev pub handed_octet : ℕ → Handed
handed_octet x = record { octet = x; output = replicate 436 0 }

pub record EndsInMet : Type 0 where
  pub body_length : BodyLength short_body
  pub shortest : BodyLength (0x00 ∷ [])
  pub longest : BodyLength (replicate 436 0x00)
  pub not_empty : BodyLength [] → ⊥
  pub not_longer : BodyLength (replicate 437 0x00) → ⊥
  pub ends : EndsIn (frame short_body) (map call (before_frame ++ frame short_body))
  pub line : LineOver (map handed_octet (before_frame ++ frame short_body))
  pub answered : answer (map call (before_frame ++ (0x7E ∷ 0x2C ∷ 0x01 ∷ 0x01 ∷ 0x2C ∷ []))) (call 0x7E) ≡ delivered short_body
  -- an octet more, and the line does not end in the frame
  pub not_behind : EndsIn (frame short_body) (map call (frame short_body ++ (0x2C ∷ []))) → ⊥
  -- the frame that carries 2C 01 with the check of 2C 00, as demand 3 has it
  pub carries : EndsIn (carrying short_body (0x2C ∷ 0x00 ∷ [])) (map call (0x7E ∷ 0x2C ∷ 0x01 ∷ 0x00 ∷ 0x2C ∷ 0x7E ∷ []))
  pub wrong_check : answer (map call (0x7E ∷ 0x2C ∷ 0x01 ∷ 0x00 ∷ 0x2C ∷ [])) (call 0x7E) ≡ refused because.wrong_check

-- ---- the stretch that is open

pub record StretchMet : Type 0 where
  -- before the first flag there is none, and no flag
  pub hunts : (cut_at_flags (map call (0x55 ∷ 0x01 ∷ []))).flags ≡ []
  pub hunted : open_stretch (cut_at_flags (map call (0x55 ∷ 0x01 ∷ []))).flags ≡ []
  -- behind two flags that have an octet between them: two octets, one, none
  pub two_octets : open_stretch (cut_at_flags (map call (0x7E ∷ 0x02 ∷ 0x7E ∷ 0x7D ∷ 0x5E ∷ []))).flags ≡ 0x7D ∷ 0x5E ∷ []
  pub one_octet : open_stretch (cut_at_flags (map call (0x7E ∷ 0x02 ∷ 0x7E ∷ 0x01 ∷ []))).flags ≡ 0x01 ∷ []
  pub no_octet : open_stretch (cut_at_flags (map call (0x7E ∷ 0x02 ∷ 0x7E ∷ []))).flags ≡ []

-- ---- a line driven by slices

-- a call with a slice and two octets of output: the octets taken, the answer, and what it leaves: counts, octets stored, output
abbrev pub slice_call : List ℕ → ℕ → Answer → Counts → List ℕ → List ℕ → ObservedSlice
slice_call line taken answer counts stored output_then =
    record {
      line = line;
      output = 0x00 ∷ 0x00 ∷ [];
      given =
          record {
            receiver = record { rest = record { phase = Reading; stored = length stored }; counts = counts };
            answer = answer;
            taken = taken;
          };
      store_after = stored ++ replicate (store_octets - length stored) 0;
      output_then = output_then;
    }

-- 55 7E 2C 01, which is taken whole and brings no answer
abbrev pub first_slice : ObservedSlice
first_slice =
    slice_call (0x55 ∷ 0x7E ∷ 0x2C ∷ 0x01 ∷ []) 4 None (record { flags = 1; delivered = 0; refused = 0; skipped = 1; unclosed = 2 }) short_body (0x00 ∷ 0x00 ∷ [])

-- 01 2C 7E 01, of which three are taken: the flag brings the body, and the octet behind it is left
abbrev pub second_slice : ObservedSlice
second_slice =
    slice_call (0x01 ∷ 0x2C ∷ 0x7E ∷ 0x01 ∷ []) 3 (Some (Ok 2)) (record { flags = 2; delivered = 4; refused = 0; skipped = 1; unclosed = 0 }) [] short_body

pub record SliceLineMet : Type 0 where
  pub line : SliceLine (first_slice ∷ second_slice ∷ [])
  -- the octets that the second took end in a flag
  pub ends_in_flag : take second_slice.given.taken second_slice.line ≡ (0x01 ∷ 0x2C ∷ []) ++ 0x7E ∷ []
  -- the second slice is no line by itself: it is answered from what the first left
  pub not_alone : SliceLine (second_slice ∷ []) → ⊥

-- ---- calls of the writer

abbrev pub short_frame : List ℕ
short_frame = 0x7E ∷ 0x2C ∷ 0x01 ∷ 0x01 ∷ 0x2C ∷ 0x7E ∷ []

abbrev pub writer_output : List ℕ
writer_output = 0xAA ∷ 0xAA ∷ 0xAA ∷ 0xAA ∷ 0xAA ∷ 0xAA ∷ 0xAA ∷ []

pub record WriterCallMet : Type 0 where
  -- accepted with an octet to spare, refused with 7 for no body, refused with 8 for an output of 5
  pub accepted : WritesFrame short_body writer_output (Ok 6) (short_frame ++ (0xAA ∷ []))
  pub no_body : WritesFrame [] writer_output (Err why.BodyLength) writer_output
  pub no_room : WritesFrame short_body (replicate 5 0xAA) (Err why.OutputLength) (replicate 5 0xAA)
  -- it is no call of the writer that says so and writes nothing
  pub not_unwritten : WritesFrame short_body writer_output (Ok 6) writer_output → ⊥
  pub calls : List WriterCall
  pub bodies : map (λ (c : WriterCall). c.body) calls ≡ short_body ∷ [] ∷ short_body ∷ []
  pub line : line_octets calls ≡ short_frame
  pub taken : accepted_bodies calls ≡ short_body ∷ []
