-- How long a message can be. Assumes nothing.
use mathlib.Core.List.{List}
use Prim.Native.Nat.{ℕ, ◌≤◌}
use native.Mathlib.Omega.{arith}
use lib.ListN.{length, drop, length-append, length-drop}
use Rattle.text_output.proofs.Printed.{hex_length}
use Rattle.text_fields.proofs.Longest.{fields_most}
use Rattle.ucp_messages.specs.declared.Message.{Message}
use Rattle.ucp_messages.specs.declared.Message.TheVariants.{Heartbeat as HeartbeatMessage, Uplink as UplinkMessage, Ownship as OwnshipMessage, GeometricAltitude as GeometricMessage, Traffic as TrafficMessage, Request as RequestMessage, Control as ControlMessage, Initialization as InitializationMessage}
use Rattle.text_ucp_messages.specs.Reports.{report_fields, geometric_fields}
use Rattle.text_ucp_messages.specs.Messages.{heartbeat_fields, request_fields, control_fields, initialization_fields, message_shown}

pub message_most : (m : Message) (body : List ℕ) → length body ≤ 436 → length (message_shown m body) ≤ 1330
unfolding message_shown
message_most (HeartbeatMessage h) body few = simp length-append (omega (arith, fields_most (heartbeat_fields h)))
message_most UplinkMessage body few = simp length-append (omega (arith, hex_length (drop 1 body), length-drop 1 body))
message_most (OwnshipMessage r) body few = simp length-append (omega (arith, fields_most (report_fields r)))
message_most (GeometricMessage g) body few = simp length-append (omega (arith, fields_most (geometric_fields g)))
message_most (TrafficMessage r) body few = simp length-append (omega (arith, fields_most (report_fields r)))
message_most (RequestMessage r) body few = simp length-append (omega (arith, fields_most (request_fields r)))
message_most (ControlMessage c) body few = simp length-append (omega (arith, fields_most (control_fields c)))
message_most (InitializationMessage n) body few = simp length-append (omega (arith, fields_most (initialization_fields n)))
