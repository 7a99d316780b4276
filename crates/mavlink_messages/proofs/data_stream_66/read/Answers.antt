-- `mavlink_messages::data_stream_66::read` meets its contract, field by field. Assumes nothing.
use mathlib.Core.Path.{◌∙◌}
use Rattle.field_format.specs.Format.{value_in}
use Rattle.field_format.proofs.ByOctets.{by_octets}
use Rattle.mavlink_messages.specs.DataStream66.{data_stream_format}
use Rattle.mavlink_messages.proofs.data_stream_66.read.Goals as goal

pub returns : goal.returns
unfolding value_in
returns c =
    (λ i. record {
      req_message_rate = c.little_16.ensures i;
      target_system = c.octet.ensures i;
      target_component = c.octet-2.ensures i;
      req_stream_id = c.octet-3.ensures i;
      start_stop = c.octet-4.ensures i;
    })
    ∙ by_octets data_stream_format 6 c.args.payload.now c.requires
