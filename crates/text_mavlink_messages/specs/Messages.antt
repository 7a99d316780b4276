-- The fields of each MAVLink kind as they are shown, in the order of its layout: units and marks for unknown as document 001
-- has them. Assumes nothing.
use Prim.Native.String.{String}
use Rattle.std.specs.Prelude.{List, [], ◌∷◌, ◌++◌, ℕ, pos, Some}
use Rattle.text_output.specs.declared.Scale.TheVariants.{Ones, Hundredths}
use Rattle.text_output.specs.Text.{codes}
use Rattle.text_fields.specs.declared.Unit.TheVariants.{Bare, MetresPerSecond}
use Rattle.text_fields.specs.Fields.{Value, number, reading, hexadecimal, quoted_text, none, Labelled, ◌is◌, fields_shown}
use Rattle.text_mavlink_messages.specs.Dynamic202.{dynamic_fields}
use Rattle.text_mavlink_messages.specs.Traffic246.{traffic_fields}
use Rattle.mavlink_frame.specs.declared.Header.{Header}
use Rattle.mavlink_messages.specs.declared.DataStream.{DataStream}
use Rattle.mavlink_messages.specs.declared.Static.{Static}
use Rattle.mavlink_messages.specs.declared.Status.{Status}
use Rattle.mavlink_messages.specs.Failures as failures-as
use Rattle.mavlink_messages.specs.Failures.{LowestAnswer, bit, FailureAnswer}
use Rattle.mavlink_messages.specs.declared.Message.{Message}
use Rattle.mavlink_messages.specs.declared.Message.TheVariants as message-as

abbrev pub header_fields : Header → List Labelled
header_fields h =
    "sequence" is number h.sequence
    ∷ "system" is number h.system
    ∷ "component" is number h.component
    ∷ []

-- 66
abbrev pub data_stream_fields : DataStream → List Labelled
data_stream_fields d =
    "rate" is reading Ones Bare (Some (pos d.req_message_rate))
    ∷ "target system" is number d.target_system
    ∷ "target component" is number d.target_component
    ∷ "stream" is number d.req_stream_id
    ∷ "start" is number d.start_stop
    ∷ []

-- 201
abbrev pub static_fields : Static → List Labelled
static_fields s =
    "address" is hexadecimal 6 s.icao
    ∷ "integrity" is hexadecimal 2 s.integrity
    ∷ "stall speed" is reading Hundredths MetresPerSecond (Some (pos s.stall_speed))
    ∷ "callsign" is quoted_text s.callsign
    ∷ "capability" is hexadecimal 2 s.capability
    ∷ "emitter" is number s.emitter
    ∷ "size" is number s.alw_encode
    ∷ "lateral" is number s.gps_lat_offs
    ∷ "longitudinal" is number s.gps_lon_offs
    ∷ []

abbrev pub lowest_shown : LowestAnswer → Value
lowest_shown (bit b) = reading Ones Bare (Some (pos b))
lowest_shown failures-as.none = none

-- 203, with how many failures it reports and the lowest
abbrev pub status_fields : Status → FailureAnswer → List Labelled
status_fields s f =
    "status" is hexadecimal 2 s.status
    ∷ "failures" is reading Ones Bare (Some (pos f.count))
    ∷ "lowest" is lowest_shown f.lowest
    ∷ []

-- a kind's name, and the frame's header
abbrev pub heading : String → Header → List ℕ
heading name h = codes name ++ fields_shown (header_fields h)

-- a message by its kind's name, its frame's header and its fields
unfoldable pub mavlink_shown : Header → Message → FailureAnswer → List ℕ
mavlink_shown h (message-as.DataStream d) f = heading " data stream request" h ++ fields_shown (data_stream_fields d)
mavlink_shown h (message-as.Static s) f = heading " static" h ++ fields_shown (static_fields s)
mavlink_shown h (message-as.Dynamic d) f = heading " dynamic" h ++ fields_shown (dynamic_fields d)
mavlink_shown h (message-as.Status s) f = heading " status" h ++ fields_shown (status_fields s f)
mavlink_shown h (message-as.Traffic t) f = heading " traffic report" h ++ fields_shown (traffic_fields t)
