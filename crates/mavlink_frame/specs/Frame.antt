-- A MAVLink version 1 frame (document 001, "MAVLink Protocol Frame Format"), and the table of the kinds (document 01, "MAVLink
-- kinds"). Assumes nothing.
use Rattle.std.specs.Prelude.{cond, List, [], ◌∷◌, ◌++◌, ℕ, eqb, Option, Some, None}
use Rattle.mavlink_frame.specs.declared.Kind.{Kind}
use Rattle.crc_x25.specs.Check.{x25_octets}
use Rattle.mavlink_frame.specs.declared.Header.{Header}

abbrev pub kind : ℕ → ℕ → ℕ → Kind
kind id length extra = record { id = id; length = length; extra = extra }

abbrev pub kinds : List Kind
kinds = kind 66 6 148 ∷ kind 201 19 126 ∷ kind 202 42 7 ∷ kind 203 1 85 ∷ kind 246 38 184 ∷ []

-- what the table says of a message ID: a kind's row, or that no kind has it
pub data KindAnswer : Type 0 where
  known : Kind → KindAnswer
  unknown : KindAnswer

-- the same of each case of the code's answer
abbrev pub kind_answer : Option Kind → KindAnswer
kind_answer (Some k) = known k
kind_answer None = unknown

abbrev pub kind_among : List Kind → ℕ → KindAnswer
kind_among [] id = unknown
kind_among (k ∷ ks) id = cond (eqb id k.id) (known k) (kind_among ks id)

-- the kind that has a message ID
unfoldable pub mavlink_kind : ℕ → KindAnswer
mavlink_kind id = kind_among kinds id

-- the start octet
abbrev pub start : ℕ
start = 0xFE

-- octets 0 to 5: start, length, sequence, system, component, message ID
abbrev pub header_octets : Kind → Header → List ℕ
header_octets k h = start ∷ k.length ∷ h.sequence ∷ h.system ∷ h.component ∷ k.id ∷ []

-- what the check is over: the octets from the length to the payload's last, and then the kind's extra
abbrev pub covered : Kind → Header → List ℕ → List ℕ
covered k h payload = k.length ∷ h.sequence ∷ h.system ∷ h.component ∷ k.id ∷ (payload ++ k.extra ∷ [])

-- octets 6 to n + 5: the payload; n + 6 and n + 7: the check, low octet first
unfoldable pub mavlink_frame : Kind → Header → List ℕ → List ℕ
mavlink_frame k h payload = header_octets k h ++ (payload ++ x25_octets (covered k h payload))
