-- `mavlink_messages::dynamic_202::read` meets its contract, field by field. Assumes nothing.
use mathlib.Core.Path.{◌∙◌}
use Rattle.field_format.specs.Format.{value_in}
use Rattle.field_format.proofs.ByOctets.{by_octets}
use Rattle.mavlink_messages.specs.Dynamic202.{dynamic_format}
use Rattle.mavlink_messages.proofs.Signed.{taken_16, taken_32}
use Rattle.mavlink_messages.proofs.dynamic_202.read.Goals as goal

pub returns : goal.returns
unfolding value_in
returns c =
    (λ i. record {
      utc_time = c.little_32.ensures i;
      latitude = taken_32 c.signed_32.ensures c.signed_32.type_inv c.little_32-2.ensures i;
      longitude = taken_32 c.signed_32-2.ensures c.signed_32-2.type_inv c.little_32-3.ensures i;
      alt_pres = taken_32 c.signed_32-3.ensures c.signed_32-3.type_inv c.little_32-4.ensures i;
      alt_gnss = taken_32 c.signed_32-4.ensures c.signed_32-4.type_inv c.little_32-5.ensures i;
      acc_horiz = c.little_32-6.ensures i;
      acc_vert = c.little_16.ensures i;
      acc_vel = c.little_16-2.ensures i;
      vel_vert = taken_16 c.signed_16.ensures c.signed_16.type_inv c.little_16-3.ensures i;
      ns_vog = taken_16 c.signed_16-2.ensures c.signed_16-2.type_inv c.little_16-4.ensures i;
      ew_vog = taken_16 c.signed_16-3.ensures c.signed_16-3.type_inv c.little_16-5.ensures i;
      state = c.little_16-6.ensures i;
      squawk = c.little_16-7.ensures i;
      fix_type = c.octet.ensures i;
      num_sats = c.octet-2.ensures i;
      em_status = c.octet-3.ensures i;
      control = c.octet-4.ensures i;
    })
    ∙ by_octets dynamic_format 42 c.args.payload.now c.requires
