-- The fields of each kind of message as they are shown, in the order of its definition. Assumes nothing.
use Rattle.std.specs.Prelude.{List, [], ◌∷◌, ◌++◌, ℕ, ◌+◌, ◌*◌, ◌/◌, pos, drop, Some}
use Rattle.text_output.specs.declared.Printing.TheVariants.{Hex}
use Rattle.text_output.specs.declared.Scale.TheVariants.{Ones, Thousandths}
use Rattle.text_output.specs.Text.{codes, printed}
use Rattle.text_fields.specs.declared.Unit.TheVariants.{Seconds, Metres}
use Rattle.text_fields.specs.Fields.{unless, number, reading, squawk, hexadecimal, quoted_text, truth, Labelled, ◌is◌, fields_shown}
use Rattle.text_ucp_messages.specs.Reports.{knots, report_fields, geometric_fields}
use Rattle.ucp_messages.specs.declared.Heartbeat.{Heartbeat}
use Rattle.ucp_messages.specs.declared.Request.{Request}
use Rattle.ucp_messages.specs.declared.Control.{Control}
use Rattle.ucp_messages.specs.declared.Initialization.{Initialization}
use Rattle.ucp_messages.specs.declared.Message.{Message}
use Rattle.ucp_messages.specs.declared.Message.TheVariants.{Heartbeat as HeartbeatMessage, Uplink as UplinkMessage, Ownship as OwnshipMessage, GeometricAltitude as GeometricMessage, Traffic as TrafficMessage, Request as RequestMessage, Control as ControlMessage, Initialization as InitializationMessage}

-- seconds since midnight: bit 16 is bit 7 of the second status octet (document 003, section 6.2.1)
abbrev pub seconds : Heartbeat → ℕ
seconds h = h.time_stamp + h.status_2 / 128 * 65536

abbrev pub heartbeat_fields : Heartbeat → List Labelled
heartbeat_fields h =
    "first status" is hexadecimal 2 h.status_1
    ∷ "second status" is hexadecimal 2 h.status_2
    ∷ "time" is reading Ones Seconds (Some (pos (seconds h)))
    ∷ "counts" is hexadecimal 4 h.counts
    ∷ []

abbrev pub request_fields : Request → List Labelled
request_fields r = "requested" is number r.requested_id ∷ []

-- an altitude of 2147483647 is no data (document 003, section 6.2.5.1)
abbrev pub control_fields : Control → List Labelled
control_fields c =
    "1090es" is truth c.es_enabled
    ∷ "mode s" is truth c.mode_s
    ∷ "mode c" is truth c.mode_c
    ∷ "mode a" is truth c.mode_a
    ∷ "ident" is truth c.ident
    ∷ "air ground" is number c.air_ground
    ∷ "barometer checked" is truth c.baro_checked
    ∷ "altitude" is reading Thousandths Metres (unless 2147483647 c.altitude)
    ∷ "squawk" is squawk c.squawk
    ∷ "emergency" is number c.emergency
    ∷ "identity" is quoted_text c.identity
    ∷ []

abbrev pub initialization_fields : Initialization → List Labelled
initialization_fields n =
    "version" is number n.version
    ∷ "address" is hexadecimal 6 n.address
    ∷ "emitter" is number n.emitter
    ∷ "callsign" is quoted_text n.callsign
    ∷ "stall speed" is knots n.stall_speed
    ∷ "size" is number n.size
    ∷ "lateral" is number n.lateral
    ∷ "longitudinal" is number n.longitudinal
    ∷ []

-- a message by its kind's name and its fields; an uplink's payload is its body behind the ID
unfoldable pub message_shown : Message → List ℕ → List ℕ
message_shown (HeartbeatMessage h) body = codes " heartbeat" ++ fields_shown (heartbeat_fields h)
message_shown UplinkMessage body = codes " uplink payload" ++ printed Hex (drop 1 body)
message_shown (OwnshipMessage r) body = codes " ownship" ++ fields_shown (report_fields r)
message_shown (GeometricMessage g) body = codes " geometric altitude" ++ fields_shown (geometric_fields g)
message_shown (TrafficMessage r) body = codes " traffic" ++ fields_shown (report_fields r)
message_shown (RequestMessage r) body = codes " request" ++ fields_shown (request_fields r)
message_shown (ControlMessage c) body = codes " control" ++ fields_shown (control_fields c)
message_shown (InitializationMessage n) body = codes " initialization" ++ fields_shown (initialization_fields n)
