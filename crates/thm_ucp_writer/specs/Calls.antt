-- Whole lists of calls to the frame writer (document 01, "Demand 3 in exact terms", the writer's part). Assumes nothing.
use Rattle.std.specs.Prelude.{◌≡◌, List, [], ◌∷◌, ◌++◌, ◌⊎◌, ℕ, ◌<◌, length, get_or, take, Ok, Err}
use Rattle.output_writing.specs.Writing.{Written, writer_answer}
use Rattle.ucp_frame.specs.Frame.{frames_of}
use Rattle.ucp_writer.specs.Room.{frame_due}
use Rattle.ucp_writer.specs.Writes.{WritesFrame}

-- one call: the body and the output as at entry, the answer, the output as at return; and that it is a call of the writer,
-- which is all that `write_frame` ensures
pub record WriterCall : Type 0 where
  pub body : List ℕ
  pub output : List ℕ
  pub answer : Written
  pub after : List ℕ
  pub writes : WritesFrame body output answer after

-- a refused call adds no line octets; every other adds the frame that it wrote, as it stands at its return
abbrev pub adds : Written → List ℕ → List ℕ
adds (Err refusal) after = []
adds (Ok octets) after = take octets after

-- and its body, as at entry, is accepted
abbrev pub accepts : Written → List ℕ → List (List ℕ)
accepts (Err refusal) body = []
accepts (Ok octets) body = body ∷ []

-- the line octets of a list of calls: the frames in the order of the calls, with nothing between
unfoldable pub line_octets : List WriterCall → List ℕ
line_octets [] = []
line_octets (c ∷ cs) = adds c.answer c.after ++ line_octets cs

unfoldable pub accepted_bodies : List WriterCall → List (List ℕ)
accepted_bodies [] = []
accepted_bodies (c ∷ cs) = accepts c.answer c.body ++ accepted_bodies cs

-- two lists of octets differ at a place that both have
pub record DifferAtPlace (xs ys : List ℕ) : Type 0 where
  pub place : ℕ
  pub in_first : place < length xs
  pub in_second : place < length ys
  pub octets : get_or xs place 0 ≡ get_or ys place 0 → ⊥

-- they differ in number or in some octet
abbrev pub DifferInNumberOrOctet : List ℕ → List ℕ → Type 0
DifferInNumberOrOctet xs ys = (length xs ≡ length ys → ⊥) ⊎ DifferAtPlace xs ys

-- demand 3, the writer, one claim about whole lists: every call is answered as the table says; the line octets of a list are the
-- frames of its accepted bodies, in the order of the calls; and for every two lists, refused calls included, where the
-- accepted bodies are not the same list the line octets are not the same either: they differ in number or in some octet
pub record WriterLists : Type 0 where
  pub answers : (c : WriterCall) → writer_answer c.answer ≡ frame_due c.body c.output
  pub frames : (calls : List WriterCall) → line_octets calls ≡ frames_of (accepted_bodies calls)
  pub apart : (xs ys : List WriterCall) → (accepted_bodies xs ≡ accepted_bodies ys → ⊥) → line_octets xs ≡ line_octets ys → ⊥
  pub differ : (xs ys : List WriterCall) → (accepted_bodies xs ≡ accepted_bodies ys → ⊥) → DifferInNumberOrOctet (line_octets xs) (line_octets ys)
