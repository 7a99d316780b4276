-- What the frame writer leaves in the output that it is lent (document 01, the paragraph below the table). Assumes nothing.
use Rattle.std.specs.Prelude.{◌≡◌, List, ◌++◌, ◌⊎◌, ℕ, ◌≤◌, ◌<◌, length, take, drop, Ok, Err}
use Rattle.refusals.specs.declared.Refusal.TheVariants.{BodyLength}
use Rattle.output_writing.specs.Writing.{Written, Writing}
use Rattle.ucp_frame.specs.Frame.{frame, longest_body, longest_frame}
use Rattle.ucp_writer.specs.Room.{frame_due}

-- one call, whole: the body and the output as at entry, the answer, and the output as at return
abbrev pub WritesFrame : List ℕ → List ℕ → Written → List ℕ → Type 0
WritesFrame body output = Writing (frame_due body output) (frame body) output

-- one call that makes of the first octets of a buffer their frame, whole: the buffer as at entry, how many octets the body has; the
-- answer, and the buffer as at return: the frame, and behind it what was there. A body of no or too many octets is left
pub record FramesInPlace (before : List ℕ) (octets : ℕ) (answer : Written) (after : List ℕ) : Type 0 where
  pub frames : 1 ≤ octets → octets ≤ longest_body
      → (answer ≡ Ok (length (frame (take octets before))))
      × (after ≡ frame (take octets before) ++ drop (length (frame (take octets before))) before)
  pub leaves : (octets ≡ 0) ⊎ (longest_body < octets) → (answer ≡ Err BodyLength) × (after ≡ before)
  -- the buffer is one for any frame
  pub size : length before ≡ longest_frame
