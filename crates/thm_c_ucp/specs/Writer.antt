-- Lists of calls of `ostrogosz_ucp_write_frame`: they are lists of the frame writer's calls in C's numbers, and what holds of those holds of
-- them. Rests on the contract of c_ucp_frames alone. Assumes nothing.
use Rattle.std.specs.Prelude.{◌≡◌, cond, List, [], ◌∷◌, ◌++◌, map, ◌⊎◌, ◌↔◌, ℕ, eqb, length, take, drop}
use Rattle.refusals.specs.Numbers as because
use Rattle.output_writing.specs.declared.OstrogoszWritten.{OstrogoszWritten}
use Rattle.output_writing.specs.Writing.{writer_answer, written_numbers}
use Rattle.ucp_frame.specs.Frame.{frame, frames_of}
use Rattle.ucp_writer.specs.Room.{frame_due}
use Rattle.ucp_writer.specs.Refusals.{WrongBodyLength, NoRoomForFrame, RoomForFrame}
use Rattle.c_ucp_frames.specs.Frames.{WritesFrameNumbers}
use Rattle.thm_ucp_writer.specs.Calls.{WriterCall, DifferInNumberOrOctet}

-- one call: the body and the output as at entry; what is given back, and the output as at return
pub record LinkedWrite : Type 0 where
  pub body : List ℕ
  pub output : List ℕ
  pub given : OstrogoszWritten
  pub after : List ℕ

-- each of these calls meets the contract: nothing is handed from one to the next
abbrev pub LinkedWrites : List LinkedWrite → Type 0
LinkedWrites [] = Unit
LinkedWrites (w ∷ ws) = WritesFrameNumbers w.body w.output w.given w.after × LinkedWrites ws

-- ---- they are the frame writer's

-- a call of the frame writer in C's numbers
abbrev pub write_in_numbers : WriterCall → LinkedWrite
write_in_numbers c =
    record { body = c.body; output = c.output; given = written_numbers (writer_answer c.answer); after = c.after }

pub record AreWrites (calls : List LinkedWrite) : Type 0 where
  pub called : List WriterCall
  pub same : map write_in_numbers called ≡ calls

pub record LinkedWriter : Type 0 where
  pub are_writes : (calls : List LinkedWrite) → LinkedWrites calls → AreWrites calls
  pub of_writes : (called : List WriterCall) → LinkedWrites (map write_in_numbers called)

-- ---- what C then sees of them: where no refusal's number is given, as many octets as the length says are the frame

abbrev pub linked_adds : OstrogoszWritten → List ℕ → List ℕ
linked_adds given after = cond (eqb given.refusal 0) (take given.length after) []

abbrev pub linked_accepts : OstrogoszWritten → List ℕ → List (List ℕ)
linked_accepts given body = cond (eqb given.refusal 0) (body ∷ []) []

abbrev pub linked_octets : List LinkedWrite → List ℕ
linked_octets [] = []
linked_octets (w ∷ ws) = linked_adds w.given w.after ++ linked_octets ws

abbrev pub linked_bodies : List LinkedWrite → List (List ℕ)
linked_bodies [] = []
linked_bodies (w ∷ ws) = linked_accepts w.given w.body ++ linked_bodies ws

-- ---- one call: 7, then 8, each exactly when and no other; a refusal's number, no length and the output as it was, or the frame

pub record FrameRefusals (body output : List ℕ) (given : OstrogoszWritten) (after : List ℕ) : Type 0 where
  pub refuses7 : (given.refusal ≡ because.body_length) ↔ WrongBodyLength body
  pub refuses8 : (given.refusal ≡ because.output_length) ↔ NoRoomForFrame body output
  pub accepts : (given.refusal ≡ 0) ↔ RoomForFrame body output
  pub no_other : (given.refusal ≡ 0) ⊎ ((given.refusal ≡ because.body_length) ⊎ (given.refusal ≡ because.output_length))
  pub writes : given.refusal ≡ 0 → (given.length ≡ length (frame body)) × (after ≡ frame body ++ drop (length (frame body)) output)
  pub leaves : (given.refusal ≡ 0 → ⊥) → (given.length ≡ 0) × (after ≡ output)

abbrev pub LinkedWriterRefuses : Type 0
LinkedWriterRefuses =
    (body output after : List ℕ) (given : OstrogoszWritten) → WritesFrameNumbers body output given after → FrameRefusals body output given after

-- ---- whole lists

-- demand 3, the writer, one claim about whole lists of linked calls, as `WriterLists` is of the frame writer's
pub record LinkedWriterLists : Type 0 where
  pub answers : (w : LinkedWrite) → LinkedWrites (w ∷ []) → w.given ≡ written_numbers (frame_due w.body w.output)
  pub frames : (calls : List LinkedWrite) → LinkedWrites calls → linked_octets calls ≡ frames_of (linked_bodies calls)
  pub differ : (xs ys : List LinkedWrite) → LinkedWrites xs → LinkedWrites ys → (linked_bodies xs ≡ linked_bodies ys → ⊥)
      → DifferInNumberOrOctet (linked_octets xs) (linked_octets ys)
