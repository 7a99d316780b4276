-- When the reader gives each refusal (document 01, the table's rows 20 to 25, and "MAVLink tests: no byte 20; 21; fewer than 6 bytes
-- 20; 22; 23; fewer than length+8 bytes 20; 24; 25"): each condition says that the tests before it are passed. Assumes nothing.
use Rattle.std.specs.Prelude.{◌≡◌, Bool, true, false, cond, List, ◌⊎◌, ℕ, ◌+◌, ◌≤◌, ◌<◌, eqb, length, get_or}
use Rattle.field_format.specs.Format.{value_in}
use Rattle.mavlink_frame.specs.declared.Kind.{Kind}
use Rattle.mavlink_frame.specs.Frame.{start, KindAnswer, known, unknown, mavlink_kind}
use Rattle.mavlink_frame.specs.Reader.{payload_at, check_at, check_due}
use Rattle.mavlink_messages.specs.Static201.{static_format}
use Rattle.mavlink_messages.specs.Dynamic202.{dynamic_format}
use Rattle.mavlink_messages.specs.Traffic246.{traffic_format}

-- octets 0 to 5 are there, the first of them FE
abbrev pub HasHeader : List ℕ → Type 0
HasHeader s = (get_or s 0 0 ≡ start) × (6 ≤ length s)

-- what the table of the kinds has for the message ID; that it has a kind, of which something holds; that it has none
abbrev pub kind_named : List ℕ → KindAnswer
kind_named s = mavlink_kind (get_or s 5 0)

abbrev pub OfKind : (Kind → Type 0) → KindAnswer → Type 0
OfKind Holds (known k) = Holds k
OfKind Holds unknown = ⊥

abbrev pub OfNoKind : KindAnswer → Type 0
OfNoKind (known k) = ⊥
OfNoKind unknown = Unit {0}

-- the length octet is the kind's; the whole frame is there; its check is right
abbrev pub HasLength : List ℕ → Kind → Type 0
HasLength s k = get_or s 1 0 ≡ k.length

abbrev pub HasFrame : List ℕ → Kind → Type 0
HasFrame s k = HasLength s k × (k.length + 8 ≤ length s)

abbrev pub HasRightCheck : List ℕ → Kind → Type 0
HasRightCheck s k = check_at k.length s ≡ check_due k.length k.extra s

-- whether the fields of an ID's payload are in their ranges: 201, 202 and 246 have some
abbrev pub payload_in_range : ℕ → List ℕ → Bool
payload_in_range id p =
    cond (eqb id 201) (static_format.ranges (value_in static_format p))
    (cond (eqb id 202) (dynamic_format.ranges (value_in dynamic_format p))
    (cond (eqb id 246) (traffic_format.ranges (value_in traffic_format p)) true))

-- 20: no octet; or FE and fewer than 6; or the kind's length octet and fewer than length + 8
abbrev pub CutShort : List ℕ → Kind → Type 0
CutShort s k = HasLength s k × (length s < k.length + 8)

abbrev pub MavlinkShort : List ℕ → Type 0
MavlinkShort s =
    (length s ≡ 0)
    ⊎ (((1 ≤ length s) × (get_or s 0 0 ≡ start) × (length s < 6))
    ⊎ (HasHeader s × OfKind (CutShort s) (kind_named s)))

-- 21: the first octet is not FE
abbrev pub MavlinkWrongStart : List ℕ → Type 0
MavlinkWrongStart s = (1 ≤ length s) × (get_or s 0 0 ≡ start → ⊥)

-- 22: no kind has the message ID
abbrev pub MavlinkUnknownId : List ℕ → Type 0
MavlinkUnknownId s = HasHeader s × OfNoKind (kind_named s)

-- 23: the length octet is not the kind's
abbrev pub MavlinkWrongLength : List ℕ → Type 0
MavlinkWrongLength s = HasHeader s × OfKind (λ k. HasLength s k → ⊥) (kind_named s)

-- 24: the check is wrong
abbrev pub MavlinkWrongCheck : List ℕ → Type 0
MavlinkWrongCheck s = HasHeader s × OfKind (λ k. HasFrame s k × (HasRightCheck s k → ⊥)) (kind_named s)

-- 25: a field is outside its range
abbrev pub OutsideRange : List ℕ → Kind → Type 0
OutsideRange s k = payload_in_range k.id (payload_at k.length s) ≡ false

abbrev pub MavlinkOutsideRange : List ℕ → Type 0
MavlinkOutsideRange s = HasHeader s × OfKind (λ k. HasFrame s k × HasRightCheck s k × OutsideRange s k) (kind_named s)
