-- Message 66, a request for a data stream (document 01, "MAVLink kinds"), 6 octets. Assumes nothing.
use Rattle.std.specs.Prelude.{true, [], ◌∷◌}
use Rattle.field_format.specs.Format.{unsigned, Format, low, octet}
use Rattle.mavlink_messages.specs.declared.DataStream.{DataStream}

-- offset 0: rate; 2: target system; 3: target component; 4: stream; 5: start or stop
abbrev pub data_stream_format : Format DataStream
data_stream_format = record {
  head = [];
  items =
      low 2 unsigned (λ d. d.req_message_rate)
      ∷ octet (λ d. d.target_system)
      ∷ octet (λ d. d.target_component)
      ∷ octet (λ d. d.req_stream_id)
      ∷ octet (λ d. d.start_stop)
      ∷ [];
  value = λ rate system component stream start. record {
    req_message_rate = rate;
    target_system = system;
    target_component = component;
    req_stream_id = stream;
    start_stop = start;
  };
  ranges = λ d. true;
}
