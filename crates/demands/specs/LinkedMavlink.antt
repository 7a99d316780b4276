-- When each call for C of one kind of MAVLink gives each refusal (document 01, the table's rows 8 and 20 to 25, and "MAVLink tests: no
-- byte 20; 21; fewer than 6 bytes 20; 22; 23; fewer than length+8 bytes 20; 24; 25"), over what the calls ensure: as the reader of
-- every kind, and, wider than 01's row by docs/DECISIONS.md, 22 for another kind's message ID too. Assumes nothing.
use Rattle.std.specs.Prelude.{◌≡◌, true, List, ◌⊎◌, ◌↔◌, ℕ, ◌+◌, ◌≤◌, length, get_or}
use Rattle.refusals.specs.Numbers as because
use Rattle.output_writing.specs.declared.OstrogoszWritten.{OstrogoszWritten}
use Rattle.mavlink_frame.specs.declared.Kind.{Kind}
use Rattle.mavlink_frame.specs.declared.Header.{Header}
use Rattle.mavlink_frame.specs.Reader.{payload_at}
use Rattle.mavlink_messages.specs.declared.Message.{Message}
use Rattle.mavlink_messages.specs.Messages.{in_range, payload_of, message_frame}
use Rattle.mavlink_messages.specs.Refusals.{HasHeader, kind_named, OfKind, HasFrame, HasRightCheck, payload_in_range, MavlinkShort, MavlinkWrongStart, MavlinkUnknownId, MavlinkWrongLength, MavlinkWrongCheck, MavlinkOutsideRange}
use Rattle.c_mavlink.specs.Readers.{read_as, ReadsMavlink}
use Rattle.c_mavlink.specs.Writers.{WritesMavlinkForC}
use Rattle.c_mavlink.specs.declared.OstrogoszMavlinkId.{OstrogoszMavlinkId}
use Rattle.c_mavlink.specs.Ids.{mavlink_id_due}
use Rattle.thm_c_messages.specs.Refusals.{WriterRefusals}

-- the message ID, where there is one, is the kind's; or there is one, and it is another's
abbrev pub HasMavlinkId : ℕ → List ℕ → Type 0
HasMavlinkId id input = HasHeader input → get_or input 5 0 ≡ id

abbrev pub HasAnotherMavlinkId : ℕ → List ℕ → Type 0
HasAnotherMavlinkId id input = HasHeader input × (get_or input 5 0 ≡ id → ⊥)

-- every test is passed: a whole frame of a kind, its check right, its fields in their ranges
abbrev pub WithinRange : List ℕ → Kind → Type 0
WithinRange s k = payload_in_range k.id (payload_at k.length s) ≡ true

abbrev pub MavlinkAccepted : List ℕ → Type 0
MavlinkAccepted s = HasHeader s × OfKind (λ k. HasFrame s k × HasRightCheck s k × WithinRange s k) (kind_named s)

-- the number that the reader of one kind answers to an input; 0 where it reads a message
pub record MavlinkRefusals (id : ℕ) (input : List ℕ) (answer : ℕ) : Type 0 where
  pub refuses20 : (answer ≡ because.mavlink_short) ↔ (HasMavlinkId id input × MavlinkShort input)
  pub refuses21 : (answer ≡ because.mavlink_start) ↔ MavlinkWrongStart input
  pub refuses22 : (answer ≡ because.mavlink_unknown_id) ↔ (MavlinkUnknownId input ⊎ HasAnotherMavlinkId id input)
  pub refuses23 : (answer ≡ because.mavlink_length) ↔ (HasMavlinkId id input × MavlinkWrongLength input)
  pub refuses24 : (answer ≡ because.mavlink_wrong_check) ↔ (HasMavlinkId id input × MavlinkWrongCheck input)
  pub refuses25 : (answer ≡ because.mavlink_field) ↔ (HasMavlinkId id input × MavlinkOutsideRange input)
  pub accepts : (answer ≡ 0) ↔ (HasMavlinkId id input × MavlinkAccepted input)
  pub no_other : (answer ≡ 0) ⊎ ((20 ≤ answer) × (answer ≤ 25))

-- of every call of a reader, by its kind's message ID; a refusal leaves both structs
abbrev pub MavlinkReaderRefuses : Type 0
MavlinkReaderRefuses =
    (id : ℕ) (input header message header_after message_after : List ℕ) (answer : ℕ)
    → ReadsMavlink (read_as id input) header message answer header_after message_after
    → MavlinkRefusals id input answer
    × ((answer ≡ 0 → ⊥) → (header_after ≡ header) × (message_after ≡ message))

-- of every call of a writer: 25, then 8
abbrev pub MavlinkWriterRefuses : Type 0
MavlinkWriterRefuses =
    (message : Message) (header : Header) (output after : List ℕ) (given : OstrogoszWritten)
    → WritesMavlinkForC message header output given after
    → WriterRefusals because.mavlink_field (in_range message) (length (payload_of message) + 8) (message_frame message header) output given after

-- of every call for the message ID: the same tests up to the frame's length, of any kind's ID; then that ID and how many octets the
-- frame has, and beside a refusal neither
abbrev pub MavlinkIdRefuses : Type 0
MavlinkIdRefuses =
    (input : List ℕ) (given : OstrogoszMavlinkId) → given ≡ mavlink_id_due input
    → ((given.refusal ≡ because.mavlink_short) ↔ MavlinkShort input)
    × ((given.refusal ≡ because.mavlink_start) ↔ MavlinkWrongStart input)
    × ((given.refusal ≡ because.mavlink_unknown_id) ↔ MavlinkUnknownId input)
    × ((given.refusal ≡ because.mavlink_length) ↔ MavlinkWrongLength input)
    × ((given.refusal ≡ 0) ⊎ ((20 ≤ given.refusal) × (given.refusal ≤ 23)))
    × (given.refusal ≡ 0 → (given.id ≡ get_or input 5 0) × (given.used ≡ get_or input 1 0 + 8))
    × ((given.refusal ≡ 0 → ⊥) → (given.id ≡ 0) × (given.used ≡ 0))
