-- `mavlink_messages::traffic_246::read` meets its contract, field by field. Assumes nothing.
use mathlib.Core.Path.{◌∙◌}
use Rattle.field_format.specs.Format.{value_in}
use Rattle.field_format.proofs.ByOctets.{by_octets}
use Rattle.mavlink_messages.specs.Traffic246.{traffic_format}
use Rattle.mavlink_messages.proofs.Signed.{taken_16, taken_32}
use Rattle.mavlink_messages.proofs.traffic_246.read.Goals as goal

pub returns : goal.returns
unfolding value_in
returns c =
    (λ i. record {
      icao_address = c.little_32.ensures i;
      lat = taken_32 c.signed_32.ensures c.signed_32.type_inv c.little_32-2.ensures i;
      lon = taken_32 c.signed_32-2.ensures c.signed_32-2.type_inv c.little_32-3.ensures i;
      altitude = taken_32 c.signed_32-3.ensures c.signed_32-3.type_inv c.little_32-4.ensures i;
      heading = c.little_16.ensures i;
      hor_velocity = c.little_16-2.ensures i;
      ver_velocity = taken_16 c.signed_16.ensures c.signed_16.type_inv c.little_16-3.ensures i;
      valid_flags = c.little_16-4.ensures i;
      squawk = c.little_16-5.ensures i;
      altitude_type = c.octet.ensures i;
      callsign = c.text_at.ensures i;
      callsign_ninth = c.octet-2.ensures i;
      emitter_type = c.octet-3.ensures i;
      tslc = c.octet-4.ensures i;
    })
    ∙ by_octets traffic_format 38 c.args.payload.now c.requires
