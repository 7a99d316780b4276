-- `initialization_117::fields` meets its contract, field by field. Assumes nothing.
use mathlib.Core.Path.{◌∙◌, ap}
use Prim.Native.Nat.{ℕ, ◌/◌, ◌%◌}
use Rattle.field_format.specs.Format.{value_in}
use Rattle.field_format.proofs.ByOctets.{by_octets}
use Rattle.ucp_messages.specs.Initialization117.{initialization_format}
use Rattle.ucp_messages.proofs.initialization_117.fields.Goals as goal

pub returns : goal.returns
unfolding value_in
returns c =
    let offsets = c.octet-offsets.ensures in
    (λ i. record {
      version = c.octet.ensures i;
      address = c.little_24.ensures i;
      emitter = c.octet-2.ensures i;
      callsign = c.text_at.ensures i;
      stall_speed = c.octet-3.ensures i;
      size = c.octet-4.ensures i;
      lateral = ap (λ (n : ℕ). n / 32) offsets i;
      longitudinal = ap (λ (n : ℕ). n % 32) offsets i;
    })
    ∙ by_octets initialization_format 19 c.args.body.now c.requires
