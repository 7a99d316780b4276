-- The rule of the squawk in the three kinds that carry one (document 02, c): what their ranges, by which reader and writer refuse with 13
-- and 25, say of it, for every message; and 1280 by example. Assumes nothing.
use Rattle.std.specs.Prelude.{◌≡◌, true, false, ◌⊎◌, ◌↔◌, ◌≤◌}
use Rattle.field_codes.specs.Squawks.{FourOctalDigits}
use Rattle.field_texts.specs.Text.{is_padded}
use Rattle.field_layout.specs.Layout.{text_octets}
use Rattle.refusals.specs.Numbers as because
use Rattle.ucp_messages.specs.declared.Control as control-as
use Rattle.ucp_messages.specs.declared.Message.TheVariants.{Control}
use Rattle.ucp_messages.specs.Control45.{control_format}
use Rattle.mavlink_frame.specs.Writer.{frame_of}
use Rattle.mavlink_messages.specs.declared.Dynamic as dynamic-as
use Rattle.mavlink_messages.specs.declared.Traffic as traffic-as
use Rattle.mavlink_messages.specs.declared.Message.TheVariants.{Dynamic, Traffic}
use Rattle.mavlink_messages.specs.Dynamic202.{dynamic_format}
use Rattle.mavlink_messages.specs.Traffic246.{traffic_format}
use Rattle.mavlink_messages.specs.Messages.{in_range, payload_of}
use Rattle.thm_kind_examples.specs.Octets.{with_octet}
use Rattle.thm_kind_examples.specs.Ucp.{Refuses, Unfit, control_body, control_with}
use Rattle.thm_kind_examples.specs.Mavlink.{header, FrameRefuses, dynamic_value, traffic_with}

-- every message, both ways
pub record SquawkRanges : Type 0 where
  pub control : (c : control-as.Control)
      → (control_format.ranges c ≡ true) ↔ (FourOctalDigits c.squawk × (is_padded (text_octets c.identity) ≡ true))
  pub dynamic : (d : dynamic-as.Dynamic) → (dynamic_format.ranges d ≡ true) ↔ (FourOctalDigits d.squawk × (d.fix_type ≤ 5))
  pub traffic : (t : traffic-as.Traffic) → (traffic_format.ranges t ≡ true) ↔ (FourOctalDigits t.squawk ⊎ (t.squawk ≡ 65535))

-- 1280, 0500 in hexadecimal: read, behind a wrong version too, and written
pub record Refuses1280 : Type 0 where
  pub control_1280 : Refuses because.field (with_octet 7 0x00 (with_octet 8 0x05 control_body))
  pub control_1280_version_2 : Refuses because.fixed (with_octet 1 0x02 (with_octet 7 0x00 (with_octet 8 0x05 control_body)))
  pub control_1280_unfit : Unfit (Control (control_with 1 1280 0x4E))
  pub dynamic_1280 : FrameRefuses because.mavlink_field (frame_of 202 header (with_octet 36 0x00 (with_octet 37 0x05 (payload_of (Dynamic dynamic_value)))))
  pub traffic_1280 : FrameRefuses because.mavlink_field (frame_of 246 header (with_octet 24 0x00 (with_octet 25 0x05 (payload_of (Traffic (traffic_with 65535))))))
  pub traffic_1280_unfit : in_range (Traffic (traffic_with 1280)) ≡ false
