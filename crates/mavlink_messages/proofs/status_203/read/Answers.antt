-- `mavlink_messages::status_203::read` meets its contract, field by field. Assumes nothing.
use mathlib.Core.Path.{◌∙◌}
use Rattle.field_format.specs.Format.{value_in}
use Rattle.field_format.proofs.ByOctets.{by_octets}
use Rattle.mavlink_messages.specs.Status203.{status_format}
use Rattle.mavlink_messages.proofs.status_203.read.Goals as goal

pub returns : goal.returns
unfolding value_in
returns c =
    (λ i. record {
      status = c.octet.ensures i;
    })
    ∙ by_octets status_format 1 c.args.payload.now c.requires
