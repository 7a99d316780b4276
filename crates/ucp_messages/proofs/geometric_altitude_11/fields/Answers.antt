-- `geometric_altitude_11::fields` meets its contract, field by field. Assumes nothing.
use mathlib.Core.Path.{◌∙◌, ap}
use mir.Syntax.{w16}
use mir.ValLaws.{to_z-of_z}
use Rattle.field_signed.specs.Signed.{signed}
use Rattle.field_format.specs.Format.{value_in}
use Rattle.field_format.proofs.ByOctets.{by_octets}
use Rattle.ucp_messages.specs.GeometricAltitude11.{geometric_format}
use Rattle.ucp_messages.proofs.geometric_altitude_11.fields.Goals as goal

pub returns : goal.returns
unfolding value_in
returns c =
    (λ i. record {
      altitude =
          (to_z-of_z w16 c.signed_16.result (record { sfits = c.signed_16.type_inv })
          ∙ c.signed_16.ensures
          ∙ ap (signed 32768) c.big_16.ensures)
          i;
      metrics = c.big_16-2.ensures i;
    })
    ∙ by_octets geometric_format 5 c.args.body.now c.requires
