-- The messages of the UCP line together (document 01, the table's rows 10 to 13): what the reader answers to a body, and the body of a
-- message, by the kinds' rows. Assumes nothing.
use Rattle.field_format.specs.Format.{fits, body_of}
use Rattle.ucp_messages.specs.declared.Kind.{Kind}
use Rattle.ucp_messages.specs.declared.Message.{Message}
use Rattle.ucp_messages.specs.declared.Message.TheVariants.{Uplink}
use Rattle.std.specs.Prelude.{◌≡◌, List, [], ℕ, drop, Bool, Result, Ok, Err}
use Rattle.refusals.specs.Numbers as because
use Rattle.ucp_answers.specs.Refusals
use Rattle.ucp_answers.specs.Refusals.{refusal_of, reads}
use Rattle.ucp_messages.specs.Uplink7.{uplink_refusal, uplink_fits, uplink_body}
use Rattle.refusals.specs.Refusals.{refusal_number}
use Rattle.refusals.specs.declared.Refusal.{Refusal}
use Rattle.ucp_messages.specs.Kinds.{Reading, format, uplink, unknown, reading_of, Carried, value, payload, carried_by, kind_in}

-- an answer in the paper's terms: a refusal's number, or the message that the body is
pub data ReaderAnswer : Type 0 where
  refused : ℕ → ReaderAnswer
  means : Message → ReaderAnswer

-- a reader's answer: the message that the body is, or why it was refused
abbrev pub Read : Type 0
Read = Result Message Refusal

-- the paper's number and values of each case
abbrev pub reader_answer : Read → ReaderAnswer
reader_answer (Err refusal) = refused (refusal_number refusal)
reader_answer (Ok message) = means message

-- the refusal, or the message where there is none
abbrev pub means_unless_refused : ℕ → Message → ReaderAnswer
means_unless_refused refusal message = Refusals.unless_refused refused refusal (means message)

abbrev pub refusal_by_reading : Reading → List ℕ → ℕ
refusal_by_reading (format f message) body = refusal_of f body
refusal_by_reading uplink body = uplink_refusal body
refusal_by_reading unknown body = because.unknown_id

abbrev pub answer_by : Reading → List ℕ → ReaderAnswer
answer_by (format f message) body = reads f refused (λ a. means (message a)) body
answer_by uplink body = means_unless_refused (uplink_refusal body) Uplink
answer_by unknown body = refused because.unknown_id

-- the refusal of a body as a message of a kind, and the answer to it
unfoldable pub refusal_in : Kind → List ℕ → ℕ
refusal_in k = refusal_by_reading (reading_of k)

unfoldable pub answer_as : Kind → List ℕ → ReaderAnswer
answer_as k = answer_by (reading_of k)

-- one call, whole
abbrev pub message_due : List ℕ → ReaderAnswer
message_due body = answer_as (kind_in body) body

abbrev pub Reads : List ℕ → Read → Type 0
Reads body answer = reader_answer answer ≡ message_due body

abbrev pub carried_fits : Carried → List ℕ → Bool
carried_fits (value f a) octets = fits f a
carried_fits payload octets = uplink_fits octets

abbrev pub carried_body : Carried → List ℕ → List ℕ
carried_body (value f a) octets = body_of f a
carried_body payload octets = uplink_body octets

-- every field is in its range and has no more bits than the body has for it
unfoldable pub message_fits : Message → List ℕ → Bool
message_fits m = carried_fits (carried_by m)

unfoldable pub message_body : Message → List ℕ → List ℕ
message_body m = carried_body (carried_by m)

-- ---- an uplink's payload, which is no part of the message: the body without its first octet
abbrev pub carried_payload : Carried → List ℕ → List ℕ
carried_payload (value f a) body = []
carried_payload payload body = drop 1 body

-- of another message, and of a body that is refused, there is none
abbrev pub payload_by : ReaderAnswer → List ℕ → List ℕ
payload_by (refused number) body = []
payload_by (means message) body = carried_payload (carried_by message) body

-- one call, whole: the body, and the octets that are given
abbrev pub GivesPayload : List ℕ → List ℕ → Type 0
GivesPayload body given = given ≡ payload_by (message_due body) body
