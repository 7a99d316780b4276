-- A message that is sent by its call for C is delivered, and reads back equal (the tender, demand 2), over what the send, the receiver
-- (of either line: Rattle's, or the linked) and the reader ensure. Assumes nothing.
use Rattle.std.specs.Prelude.{◌≡◌, List, ◌∷◌, ◌++◌, ℕ, ◌≤◌, length, take}
use Rattle.crc_polynomial.specs.Polynomial.{Octets}
use Rattle.field_format.specs.Format.{Format, body_of}
use Rattle.output_writing.specs.declared.OstrogoszWritten.{OstrogoszWritten}
use Rattle.ucp_frame.specs.Frame.{longest_body}
use Rattle.ucp_frame.specs.Stretch.{delivered}
use Rattle.ucp_messages.specs.Uplink7.{uplink_body}
use Rattle.c_lent.specs.Structs.{Struct, struct_size, held}
use Rattle.c_lent.specs.Reads.{ReadsInto}
use Rattle.c_lent.specs.Sends.{SendsStruct}
use Rattle.c_ucp_uplink.specs.Uplink.{ReadsUplink, SendsUplink}
use Rattle.thm_ucp_receiver.specs.Line.{Observed, up_to, Line}
use Rattle.thm_ucp_receiver.specs.Promises.{AnswersAs, EndsIn}
use Rattle.thm_c_messages.specs.RoundTrips.{ReadsSame}
use Rattle.thm_c_messages.specs.EachKind.{OfEachKind}

-- where a line, whatever it brought before, ends in these octets, and the room is 436 octets or more: the last call delivers this
-- body, and the octets that it put out meet `Use`. `DeliversLinked` of thm_c_ucp is the same of a linked line
abbrev pub DeliversOnLine : List ℕ → List ℕ → (List ℕ → Type 0) → Type 0
DeliversOnLine octets body Use =
    (before later : List Observed) (o : Observed) → Line (before ++ o ∷ later)
    → EndsIn octets (up_to before o) → longest_body ≤ length o.output
    → AnswersAs (delivered body) o × Use (take (length body) o.output_then)

-- what it is that these octets, on a line, bring this body, and that the octets put out meet something: `DeliversOnLine`, or
-- `DeliversLinked`
abbrev pub Delivering : Type 1
Delivering = List ℕ → List ℕ → (List ℕ → Type 0) → Type 0

-- what an accepted send wrote is delivered, and a reader that is given the body put out leaves a struct that holds what was sent
abbrev pub StructSentIsDelivered : Delivering → {A : Type 0} → Format A → Struct A → Type 0
StructSentIsDelivered Delivers f s =
    (message buffer after : List ℕ) (w : OstrogoszWritten) → Octets message → length message ≡ struct_size s
    → SendsStruct f (held s message) buffer w after → w.refusal ≡ 0
    → Delivers (take w.length after) (body_of f (held s message))
    (λ (body : List ℕ). (lent left : List ℕ) (r : ℕ) → ReadsInto f s body lent r left → ReadsSame s message r left)

-- the same of an uplink, whose payload is lent
abbrev pub UplinkSentIsDelivered : Delivering → Type 0
UplinkSentIsDelivered Delivers =
    (payload buffer after : List ℕ) (w : OstrogoszWritten) → SendsUplink payload buffer w after → w.refusal ≡ 0
    → Delivers (take w.length after) (uplink_body payload)
    (λ (body : List ℕ). (lent left : List ℕ) (r : ℕ) → ReadsUplink body lent r left → (r ≡ 0) × (left ≡ payload))

-- every kind of the UCP line
abbrev pub LentSentIsDelivered : Delivering → Type 0
LentSentIsDelivered Delivers = OfEachKind (λ A id k f s. StructSentIsDelivered Delivers f s) (UplinkSentIsDelivered Delivers)
