-- What a send of one kind answers in numbers, and what it leaves in the buffer that it is lent. Assumes nothing.
use Rattle.std.specs.Prelude.{◌≡◌, ◌⊎◌, List, ◌++◌, ℕ, ◌<◌, ◌≤◌, length, take, drop, Result, Ok, Err}
use Rattle.refusals.specs.declared.Refusal.{Refusal}
use Rattle.field_format.specs.Format.{Format, fits, body_of}
use Rattle.output_writing.specs.declared.OstrogoszWritten.{OstrogoszWritten}
use Rattle.output_writing.specs.Writing.{Written, WritingNumbers}
use Rattle.ucp_frame.specs.Frame.{frame, longest_body, longest_frame}
use Rattle.ucp_writer.specs.Writes.{FramesInPlace}
use Rattle.ucp_writer.specs.Sends.{send_due}

-- one call, whole: the kind and the value, the buffer as at entry, what is given back, and the buffer as at return
abbrev pub SendsStruct : {A : Type 0} → Format A → A → List ℕ → OstrogoszWritten → List ℕ → Type 0
SendsStruct f a buffer = WritingNumbers (send_due (fits f a) (body_of f a) buffer) (frame (body_of f a)) buffer

-- the second half of a send: what the kind's writer gave, how many octets its bodies have, and the buffer that it wrote to. Its
-- refusal is handed on, and its body becomes its frame
abbrev pub FramesIfWritten : Result (Unit {0}) Refusal → ℕ → List ℕ → Written → List ℕ → Type 0
FramesIfWritten (Err refusal) octets buffer answer after = (answer ≡ Err refusal) × (after ≡ buffer)
FramesIfWritten (Ok done) octets buffer answer after = FramesInPlace buffer octets answer after

-- framing in place, where no octets are a refusal's
pub record FramesLength (before : List ℕ) (octets given : ℕ) (after : List ℕ) : Type 0 where
  pub frames : 1 ≤ octets → octets ≤ longest_body
      → (given ≡ length (frame (take octets before))) × (after ≡ frame (take octets before) ++ drop given before)
  pub leaves : (octets ≡ 0) ⊎ (longest_body < octets) → (given ≡ 0) × (after ≡ before)
  -- the buffer is one for any frame
  pub size : length before ≡ longest_frame

-- the same of what the kind's writer gave in numbers
abbrev pub FramesWritten : OstrogoszWritten → List ℕ → OstrogoszWritten → List ℕ → Type 0
FramesWritten written buffer given after =
    (given.refusal ≡ written.refusal) × FramesLength buffer written.length given.length after
