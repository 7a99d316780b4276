-- Why a reader by blocks may decide at 50 octets: what is read there does not change with the octets behind. Assumes nothing.
use Rattle.std.specs.Prelude.{◌≡◌, List, ◌++◌, ℕ, ◌≤◌, length}
use Rattle.mavlink_messages.specs.Messages.{read_due}

-- the longest frame, that of kind 202
abbrev pub frame_room : ℕ
frame_room = 50

abbrev pub Decided : List ℕ → Type 0
Decided input = (more : List ℕ) → read_due (input ++ more) ≡ read_due input

abbrev pub DecidedAtRoom : Type 0
DecidedAtRoom = (input : List ℕ) → frame_room ≤ length input → Decided input
