-- When each call for C of a message of the UCP line gives each refusal (document 01, the table's rows 7, 8 and 10 to 13 and the
-- paragraph below it), over what the calls ensure: each condition says that none before it is met, and there is no other refusal. Wider
-- than the rows, by docs/DECISIONS.md: a reader of one kind gives 10 for another kind's ID too, and a writer or a send 13 for an
-- uplink's payload that is not of 435 octets. Assumes nothing.
use Rattle.std.specs.Prelude.{◌≡◌, Bool, true, false, List, ◌++◌, ◌⊎◌, ◌↔◌, ℕ, ◌≤◌, ◌<◌, length, get_or, drop}
use Rattle.refusals.specs.Numbers as because
use Rattle.field_format.specs.Format.{Format, fits, body_of}
use Rattle.output_writing.specs.declared.OstrogoszWritten.{OstrogoszWritten}
use Rattle.ucp_messages.specs.declared.Kind.{Kind}
use Rattle.ucp_messages.specs.declared.Kind.TheVariants as kind
use Rattle.ucp_messages.specs.Refusals.{UnknownId, HasKindLength, HasFixedOctets, fields_in_range}
use Rattle.ucp_messages.specs.Uplink7.{uplink_fits, uplink_body}
use Rattle.c_lent.specs.Structs.{Struct}
use Rattle.c_lent.specs.Reads.{ReadsInto}
use Rattle.c_lent.specs.Writes.{WritesStructBody}
use Rattle.c_lent.specs.Sends.{SendsStruct}
use Rattle.c_ucp_uplink.specs.Uplink.{ReadsUplink, WritesUplink, SendsUplink}
use Rattle.c_ucp_ids.specs.declared.OstrogoszId.{OstrogoszId}
use Rattle.c_ucp_ids.specs.Ids.{id_due}
use Rattle.thm_c_ucp.specs.Writer.{FrameRefusals}
use Rattle.thm_c_messages.specs.EachKind.{OfEachKind}

-- ---- reading
-- no octet, or another first octet than the kind's ID; and the other way
abbrev pub OfAnotherId : ℕ → List ℕ → Type 0
OfAnotherId id body = (length body ≡ 0) ⊎ (get_or body 0 0 ≡ id → ⊥)

abbrev pub OfItsId : ℕ → List ℕ → Type 0
OfItsId id body = (1 ≤ length body) × (get_or body 0 0 ≡ id)

-- the number that the reader of one kind answers to a body; 0 where it reads a message
pub record ReaderRefusals (id : ℕ) (k : Kind) (body : List ℕ) (answer : ℕ) : Type 0 where
  pub refuses10 : (answer ≡ because.unknown_id) ↔ OfAnotherId id body
  pub refuses11 : (answer ≡ because.message_length) ↔ (OfItsId id body × (HasKindLength k body → ⊥))
  pub refuses12 : (answer ≡ because.fixed) ↔ (OfItsId id body × HasKindLength k body × (HasFixedOctets k body → ⊥))
  pub refuses13 :
      (answer ≡ because.field)
      ↔ (OfItsId id body × HasKindLength k body × HasFixedOctets k body × (fields_in_range k body ≡ false))
  pub accepts :
      (answer ≡ 0) ↔ (OfItsId id body × HasKindLength k body × HasFixedOctets k body × (fields_in_range k body ≡ true))
  pub no_other : (answer ≡ 0) ⊎ ((10 ≤ answer) × (answer ≤ 13))

-- of every call of a reader: the body, what is lent as at entry, the answer, and what is lent as at return; a refusal leaves it
abbrev pub ReaderRefuses : ℕ → Kind → (List ℕ → List ℕ → ℕ → List ℕ → Type 0) → Type 0
ReaderRefuses id k Call =
    (body before after : List ℕ) (answer : ℕ) → Call body before answer after
    → ReaderRefusals id k body answer × ((answer ≡ 0 → ⊥) → after ≡ before)

-- ---- writing: first the number for a field outside its range or too wide for its bits, then 8. So many octets are to be written
pub record WriterRefusals (number : ℕ) (fit : Bool) (size : ℕ) (octets output : List ℕ) (given : OstrogoszWritten) (after : List ℕ) : Type 0 where
  pub refuses_field : (given.refusal ≡ number) ↔ (fit ≡ false)
  pub refuses8 : (given.refusal ≡ because.output_length) ↔ ((fit ≡ true) × (length output < size))
  pub accepts : (given.refusal ≡ 0) ↔ ((fit ≡ true) × (size ≤ length output))
  pub no_other : (given.refusal ≡ 0) ⊎ ((given.refusal ≡ because.output_length) ⊎ (given.refusal ≡ number))
  pub writes : given.refusal ≡ 0 → (given.length ≡ size) × (after ≡ octets ++ drop size output)
  pub leaves : (given.refusal ≡ 0 → ⊥) → (given.length ≡ 0) × (after ≡ output)

-- of every call of a writer: the value, the output as at entry, what is given back, and the output as at return
abbrev pub WriterRefuses : {A : Type 0} → (A → Bool) → (A → List ℕ) → (A → List ℕ → OstrogoszWritten → List ℕ → Type 0) → Type 0
WriterRefuses {A} fit body Call =
    (a : A) (output after : List ℕ) (given : OstrogoszWritten) → Call a output given after
    → WriterRefusals because.field (fit a) (length (body a)) (body a) output given after

-- ---- sending: 13, then what the frame writer for C answers to the body and leaves, `FrameRefusals`: 7, then 8
pub record SendRefusals (fit : Bool) (body buffer : List ℕ) (given : OstrogoszWritten) (after : List ℕ) : Type 0 where
  pub refuses13 : (given.refusal ≡ because.field) ↔ (fit ≡ false)
  pub leaves : fit ≡ false → (given.length ≡ 0) × (after ≡ buffer)
  pub frames : fit ≡ true → FrameRefusals body buffer given after

abbrev pub SendRefuses : {A : Type 0} → (A → Bool) → (A → List ℕ) → (A → List ℕ → OstrogoszWritten → List ℕ → Type 0) → Type 0
SendRefuses {A} fit body Call =
    (a : A) (buffer after : List ℕ) (given : OstrogoszWritten) → Call a buffer given after → SendRefusals (fit a) (body a) buffer given after

-- ---- the three calls of a kind, over any format and struct; and those of an uplink, whose payload is lent
abbrev pub StructRefuses : {A : Type 0} → ℕ → Kind → Format A → Struct A → Type 0
StructRefuses id k f s =
    ReaderRefuses id k (ReadsInto f s)
    × WriterRefuses (fits f) (body_of f) (WritesStructBody f)
    × SendRefuses (fits f) (body_of f) (SendsStruct f)

abbrev pub UplinkRefuses : Type 0
UplinkRefuses =
    ReaderRefuses 7 kind.Uplink ReadsUplink
    × WriterRefuses uplink_fits uplink_body WritesUplink
    × SendRefuses uplink_fits uplink_body SendsUplink

-- every kind of the UCP line
abbrev pub LentRefusals : Type 0
LentRefusals = OfEachKind (λ A id k f s. StructRefuses id k f s) UplinkRefuses

-- ---- the call that gives a body's ID: 10 for no octet or an ID of no kind, no other refusal, and beside it no ID
abbrev pub IdRefuses : Type 0
IdRefuses =
    (body : List ℕ) (given : OstrogoszId) → given ≡ id_due body
    → ((given.refusal ≡ because.unknown_id) ↔ UnknownId body)
    × ((given.refusal ≡ 0) ↔ (UnknownId body → ⊥))
    × ((given.refusal ≡ 0) ⊎ (given.refusal ≡ because.unknown_id))
    × (given.refusal ≡ 0 → given.id ≡ get_or body 0 0)
    × ((given.refusal ≡ 0 → ⊥) → given.id ≡ 0)
