-- The kinds of message on the UCP line, a row for each (document 01, "Message kinds on the UCP line"), and the kind of a body by its
-- ID. An uplink has no format: its payload is carried beside the message. Assumes nothing.
use Rattle.std.specs.Prelude.{◌≡◌, Bool, true, false, cond, List, [], ◌∷◌, ℕ, ◌<◌, eqb, length, get_or}
use Rattle.field_format.specs.Format.{Format}
use Rattle.ucp_messages.specs.Heartbeat0.{heartbeat_format}
use Rattle.ucp_messages.specs.Report10.{report_format}
use Rattle.ucp_messages.specs.GeometricAltitude11.{geometric_format}
use Rattle.ucp_messages.specs.Request44.{request_format}
use Rattle.ucp_messages.specs.Control45.{control_format}
use Rattle.ucp_messages.specs.Initialization117.{initialization_format}
use Rattle.ucp_messages.specs.declared.Kind.{Kind}
use Rattle.ucp_messages.specs.declared.Kind.TheVariants.{Heartbeat, Uplink, Ownship, GeometricAltitude, Traffic, Request, Control, Initialization, Unknown}
use Rattle.ucp_messages.specs.declared.Message.{Message}
use Rattle.ucp_messages.specs.declared.Message.TheVariants as message

-- how a body of a kind is read: a format, and the message that its value is
pub data Reading : Type 1 where
  format : {A : Type 0} → Format A → (A → Message) → Reading
  uplink : Reading
  unknown : Reading

-- a kind's ID; an unknown kind has none
pub data KindId : Type 0 where
  its : ℕ → KindId
  none : KindId

-- a kind: its ID, the length of its bodies, the ID included, what stands behind the ID in each of them (the version of 44 and of 45,
-- the signature and the subtype of 117), and how they are read
pub record KindRow : Type 1 where
  pub id : KindId
  pub size : ℕ
  pub fixed : List ℕ
  pub reading : Reading

abbrev pub kind_row : Kind → KindRow
kind_row Heartbeat = record { id = its 0; size = 7; fixed = []; reading = format heartbeat_format message.Heartbeat }
kind_row Uplink = record { id = its 7; size = 436; fixed = []; reading = uplink }
kind_row Ownship = record { id = its 10; size = 28; fixed = []; reading = format (report_format 10) message.Ownship }
kind_row GeometricAltitude = record { id = its 11; size = 5; fixed = []; reading = format geometric_format message.GeometricAltitude }
kind_row Traffic = record { id = its 20; size = 28; fixed = []; reading = format (report_format 20) message.Traffic }
kind_row Request = record { id = its 44; size = 3; fixed = 2 ∷ []; reading = format request_format message.Request }
kind_row Control = record { id = its 45; size = 18; fixed = 1 ∷ []; reading = format control_format message.Control }
kind_row Initialization = record { id = its 117; size = 19; fixed = 65 ∷ 1 ∷ []; reading = format initialization_format message.Initialization }
kind_row Unknown = record { id = none; size = 0; fixed = []; reading = unknown }

-- all but the unknown one
abbrev pub known_kinds : List Kind
known_kinds = Heartbeat ∷ Uplink ∷ Ownship ∷ GeometricAltitude ∷ Traffic ∷ Request ∷ Control ∷ Initialization ∷ []

-- what a message carries: a value of a format
pub data Carried : Type 1 where
  value : {A : Type 0} → Format A → A → Carried
  payload : Carried

abbrev pub carried_by : Message → Carried
carried_by (message.Heartbeat h) = value heartbeat_format h
carried_by message.Uplink = payload
carried_by (message.Ownship r) = value (report_format 10) r
carried_by (message.GeometricAltitude g) = value geometric_format g
carried_by (message.Traffic r) = value (report_format 20) r
carried_by (message.Request q) = value request_format q
carried_by (message.Control c) = value control_format c
carried_by (message.Initialization n) = value initialization_format n

-- ---- the columns of the rows
abbrev pub reading_of : Kind → Reading
reading_of k = (kind_row k).reading

abbrev pub kind_length : Kind → ℕ
kind_length k = (kind_row k).size

abbrev pub fixed_octets : Kind → List ℕ
fixed_octets k = (kind_row k).fixed

abbrev pub is_some : KindId → Bool
is_some (its x) = true
is_some none = false

-- one that has an ID
abbrev pub is_known : Kind → Bool
is_known k = is_some (kind_row k).id

-- ---- a kind by its ID
abbrev pub listed : KindId → List ℕ → List ℕ
listed (its x) rest = x ∷ rest
listed none rest = rest

abbrev pub ids_of : List Kind → List ℕ
ids_of [] = []
ids_of (k ∷ ks) = listed (kind_row k).id (ids_of ks)

abbrev pub known_ids : List ℕ
known_ids = ids_of known_kinds

-- a number is none of these, in the order in which the code's choice tests them
abbrev pub AndNoneOf : Type 0 → List ℕ → ℕ → Type 0
AndNoneOf before [] n = before
AndNoneOf before (x ∷ xs) n = AndNoneOf (before × (n ≡ x → ⊥)) xs n

abbrev pub NoneOf : List ℕ → ℕ → Type 0
NoneOf xs n = AndNoneOf (Unit {0}) xs n

abbrev pub HasKindId : KindId → ℕ → Type 0
HasKindId (its x) n = n ≡ x
HasKindId none n = NoneOf known_ids n

-- the number is the kind's ID; of an unknown kind, it is no kind's
abbrev pub NamedBy : ℕ → Kind → Type 0
NamedBy n k = HasKindId (kind_row k).id n

abbrev pub is_kind_id : KindId → ℕ → Bool
is_kind_id (its x) n = eqb n x
is_kind_id none n = false

-- the first of these kinds that has the ID
abbrev pub first_named : List Kind → ℕ → Kind
first_named [] n = Unknown
first_named (k ∷ ks) n = cond (is_kind_id (kind_row k).id n) k (first_named ks n)

unfoldable pub kind_of : ℕ → Kind
kind_of n = first_named known_kinds n

-- the kind of a body: an empty one is of none
abbrev pub kind_in : List ℕ → Kind
kind_in [] = Unknown
kind_in (id ∷ rest) = kind_of id

-- a body that starts with this ID
pub record StartsWith (id : ℕ) (body : List ℕ) : Type 0 where
  pub some : 0 < length body
  pub first : get_or body 0 0 ≡ id
