-- `report_10::fields` meets its contract, field by field. Assumes nothing.
use mathlib.Core.Path.{◌∙◌, ap}
use Prim.Native.Nat.{ℕ, ◌/◌, ◌%◌}
use mir.Syntax.{w16, w32}
use mir.ValLaws.{to_z-of_z}
use Rattle.field_signed.specs.Signed.{signed}
use Rattle.field_format.specs.Format.{value_in}
use Rattle.field_format.proofs.ByOctets.{by_octets}
use Rattle.ucp_messages.specs.Report10.{report_format}
use Rattle.ucp_messages.proofs.report_10.fields.Goals as goal

pub returns : goal.returns
unfolding value_in
returns c =
    let first = c.octet-first.ensures in
    let height = c.big_16-height.ensures in
    let integrity = c.octet-integrity.ensures in
    let motion = c.big_32-motion.ensures in
    let last = c.octet-last.ensures in
    (λ i. record {
      alert = (ap (λ (n : ℕ). n / 16) first) i;
      address_type = (ap (λ (n : ℕ). n % 16) first) i;
      address = c.big_24.ensures i;
      latitude =
          (to_z-of_z w32 c.signed_24.result (record { sfits = c.signed_24.type_inv })
          ∙ c.signed_24.ensures
          ∙ ap (signed 8388608) c.big_24-2.ensures)
          i;
      longitude =
          (to_z-of_z w32 c.signed_24-2.result (record { sfits = c.signed_24-2.type_inv })
          ∙ c.signed_24-2.ensures
          ∙ ap (signed 8388608) c.big_24-3.ensures)
          i;
      altitude = (ap (λ (n : ℕ). n / 16) height) i;
      miscellaneous = (ap (λ (n : ℕ). n % 16) height) i;
      nic = (ap (λ (n : ℕ). n / 16) integrity) i;
      nacp = (ap (λ (n : ℕ). n % 16) integrity) i;
      speed = (ap (λ (n : ℕ). n / 1048576) motion) i;
      vertical_rate =
          (to_z-of_z w16 c.signed_12.result (record { sfits = c.signed_12.type_inv })
          ∙ c.signed_12.ensures
          ∙ ap (signed 2048) (ap (λ (n : ℕ). n % 1048576 / 256) motion))
          i;
      track = (ap (λ (n : ℕ). n % 1048576 % 256) motion) i;
      emitter = c.octet.ensures i;
      callsign = c.text_at.ensures i;
      emergency = (ap (λ (n : ℕ). n / 16) last) i;
      spare = (ap (λ (n : ℕ). n % 16) last) i;
    })
    ∙ by_octets (report_format 10) 28 c.args.body.now c.requires
