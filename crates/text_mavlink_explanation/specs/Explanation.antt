-- The line that explains what stands at the start of an input. Assumes nothing.
use Rattle.std.specs.Prelude.{Bool, true, false, List, ◌++◌, ℕ, Option, Some, None}
use Rattle.text_output.specs.Text.{codes, natural}
use Rattle.text_refusals.specs.Refusals.{refusal}
use Rattle.mavlink_messages.specs.Messages.{MavlinkAnswer, refused, means}
use Rattle.text_mavlink_messages.specs.Messages.{mavlink_shown}

-- a frame: how many octets it has, and its message; or the refusal
unfoldable pub frame_line : MavlinkAnswer → List ℕ
frame_line (means h used m f) = codes "ok " ++ (natural used ++ (mavlink_shown h m f ++ codes "\n"))
frame_line (refused number) = refusal number ++ codes "\n"

-- a refused frame uses none
abbrev pub used_by : MavlinkAnswer → ℕ
used_by (means h used m f) = used
used_by (refused number) = 0

abbrev pub is_refused : MavlinkAnswer → Bool
is_refused (means h used m f) = false
is_refused (refused number) = true

-- the octets of a frame that is read, or none
abbrev pub used_answer : MavlinkAnswer → Option ℕ
used_answer (means h used m f) = Some used
used_answer (refused number) = None

-- the last line: how many frames were explained, and the octets that they used, which is where a refused one begins
unfoldable pub frames_line : ℕ → ℕ → List ℕ
frames_line frames bytes = codes "frames " ++ (natural frames ++ (codes " bytes " ++ (natural bytes ++ codes "\n")))
