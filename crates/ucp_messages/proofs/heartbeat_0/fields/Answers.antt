-- `heartbeat_0::fields` meets its contract, field by field. Assumes nothing.
use mathlib.Core.Path.{◌∙◌}
use Rattle.field_format.specs.Format.{value_in}
use Rattle.field_format.proofs.ByOctets.{by_octets}
use Rattle.ucp_messages.specs.Heartbeat0.{heartbeat_format}
use Rattle.ucp_messages.proofs.heartbeat_0.fields.Goals as goal

pub returns : goal.returns
unfolding value_in
returns c =
    (λ i. record {
      status_1 = c.octet.ensures i;
      status_2 = c.octet-2.ensures i;
      time_stamp = c.little_16.ensures i;
      counts = c.big_16.ensures i;
    })
    ∙ by_octets heartbeat_format 7 c.args.body.now c.requires
