-- `control_45::fields` meets its contract, field by field. Assumes nothing.
use mathlib.Core.Path.{◌∙◌, ap}
use Prim.Native.Nat.{ℕ, ◌/◌, ◌%◌}
use mir.Syntax.{w32}
use mir.ValLaws.{to_z-of_z}
use Rattle.field_layout.specs.Layout.{is_set}
use Rattle.field_signed.specs.Signed.{signed}
use Rattle.field_format.specs.Format.{value_in}
use Rattle.field_format.proofs.ByOctets.{by_octets}
use Rattle.ucp_messages.specs.Control45.{control_format}
use Rattle.ucp_messages.proofs.control_45.fields.Goals as goal

pub returns : goal.returns
unfolding value_in
returns c =
    let state = c.octet-state.ensures in
    let altitude = c.signed_32 in
    (λ i. record {
      es_enabled = ap (λ (n : ℕ). is_set (n / 128)) state i;
      mode_s = ap (λ (n : ℕ). is_set (n % 128 / 64)) state i;
      mode_c = ap (λ (n : ℕ). is_set (n % 128 % 64 / 32)) state i;
      mode_a = ap (λ (n : ℕ). is_set (n % 128 % 64 % 32 / 16)) state i;
      ident = ap (λ (n : ℕ). is_set (n % 128 % 64 % 32 % 16 / 8)) state i;
      air_ground = ap (λ (n : ℕ). n % 128 % 64 % 32 % 16 % 8 / 2) state i;
      baro_checked = ap (λ (n : ℕ). is_set (n % 128 % 64 % 32 % 16 % 8 % 2)) state i;
      altitude =
          (to_z-of_z w32 altitude.result (record { sfits = altitude.type_inv }) ∙ altitude.ensures
          ∙ ap (signed 2147483648) c.little_32.ensures) i;
      squawk = c.little_16.ensures i;
      emergency = c.octet.ensures i;
      identity = c.text_at.ensures i;
    })
    ∙ by_octets control_format 18 c.args.body.now c.requires
