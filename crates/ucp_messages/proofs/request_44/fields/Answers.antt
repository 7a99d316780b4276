-- `request_44::fields` meets its contract, field by field. Assumes nothing.
use mathlib.Core.Path.{◌∙◌}
use Rattle.field_format.specs.Format.{value_in}
use Rattle.field_format.proofs.ByOctets.{by_octets}
use Rattle.ucp_messages.specs.Request44.{request_format}
use Rattle.ucp_messages.proofs.request_44.fields.Goals as goal

pub returns : goal.returns
unfolding value_in
returns c = (λ i. record { requested_id = c.octet.ensures i }) ∙ by_octets request_format 3 c.args.body.now c.requires
