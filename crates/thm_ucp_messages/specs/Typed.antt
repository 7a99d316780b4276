-- A message is a value of its type: each number is one that its type holds. Of the numbers that a writer tests for their width
-- nothing is said. Assumes nothing.
use Rattle.std.specs.Prelude.{◌≡◌, List, ℕ}
use Rattle.crc_polynomial.specs.Polynomial.{Octets}
use Rattle.field_format.specs.Format.{TypedAs}
use Rattle.ucp_messages.specs.declared.Message.{Message}
use Rattle.ucp_messages.specs.Kinds.{Carried, value, payload, carried_by}
use Rattle.ucp_messages.specs.Messages.{means, message_due}

abbrev pub TypedCarried : Carried → Type 0
TypedCarried (value f a) = TypedAs f a
TypedCarried payload = Unit {0}

abbrev pub MessageTyped : Message → Type 0
MessageTyped m = TypedCarried (carried_by m)

-- every message that the reader gives is one
abbrev pub ReadIsTyped : Type 0
ReadIsTyped = (body : List ℕ) (m : Message) → Octets body → message_due body ≡ means m → MessageTyped m
