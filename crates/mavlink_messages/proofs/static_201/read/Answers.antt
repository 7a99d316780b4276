-- `mavlink_messages::static_201::read` meets its contract, field by field. Assumes nothing.
use mathlib.Core.Path.{◌∙◌}
use Rattle.field_format.specs.Format.{value_in}
use Rattle.field_format.proofs.ByOctets.{by_octets}
use Rattle.mavlink_messages.specs.Static201.{static_format}
use Rattle.mavlink_messages.proofs.static_201.read.Goals as goal

pub returns : goal.returns
unfolding value_in
returns c =
    (λ i. record {
      icao = c.little_24.ensures i;
      integrity = c.octet.ensures i;
      stall_speed = c.little_16.ensures i;
      callsign = c.text_at.ensures i;
      capability = c.octet-2.ensures i;
      emitter = c.octet-3.ensures i;
      alw_encode = c.octet-4.ensures i;
      gps_lat_offs = c.octet-5.ensures i;
      gps_lon_offs = c.octet-6.ensures i;
    })
    ∙ by_octets static_format 19 c.args.payload.now c.requires
