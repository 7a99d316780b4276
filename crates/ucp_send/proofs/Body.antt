-- Every message's body may be sent. Assumes nothing.
use mathlib.Core.Path.{◌≡◌, subst}
use mathlib.Core.Bool.{true}
use mathlib.Core.List.{List}
use Prim.Native.Nat.{ℕ, ◌≤◌}
use native.Mathlib.Omega.{arith}
use borrow.Author.Tests.{eqb-true}
use lib.ListN.{length}
use Rattle.ucp_messages.specs.declared.Message.{Message}
use Rattle.ucp_messages.specs.Uplink7.{uplink_fits}
use Rattle.ucp_messages.specs.Messages.{message_fits, message_body}
use Rattle.ucp_messages.proofs.Formats.{MadeOf, of_format, of_uplink, made_of, body_as}
use Rattle.ucp_writer.proofs.Sends.{Sendable}

abbrev Sized : List ℕ → Type 0
Sized body = (1 ≤ length body) × (length body ≤ 436)

by_kind : {m : Message} → MadeOf m → (payload : List ℕ) → message_fits m payload ≡ true → Sized (message_body m payload)
unfolding message_fits message_body uplink_fits
by_kind (of_format k f message a l e) payload h = subst (λ (m : Message). Sized (message_body m payload)) e (rw (body_as l a payload) (l.sized a))
by_kind of_uplink payload h = let e = eqb-true (length payload) 435 h in (omega arith, omega arith)

-- a body of every kind has 1 to 436 octets
pub sendable : (m : Message) (payload : List ℕ) → Sendable (message_fits m payload) (message_body m payload)
sendable m payload h = by_kind (made_of m) payload h
