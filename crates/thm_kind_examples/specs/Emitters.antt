-- The rule of the emitter in the two kinds that test one (document 02, e): what their ranges, by which reader and writer refuse with 13
-- and 25, say of it, for every message; and obstacles by example. What 246 tests is in Squawks. Assumes nothing.
use Rattle.std.specs.Prelude.{◌≡◌, true, false, ◌↔◌, ℕ, ◌≤◌, ◌<◌}
use Rattle.field_texts.specs.Text.{is_spaced}
use Rattle.field_layout.specs.Layout.{text_octets}
use Rattle.refusals.specs.Numbers as because
use Rattle.ucp_messages.specs.declared.Report as report-as
use Rattle.ucp_messages.specs.declared.Initialization as initialization-as
use Rattle.ucp_messages.specs.declared.Message.TheVariants.{Traffic, Initialization}
use Rattle.ucp_messages.specs.Report10.{report_format}
use Rattle.ucp_messages.specs.Initialization117.{initialization_format}
use Rattle.mavlink_frame.specs.Writer.{frame_of}
use Rattle.mavlink_messages.specs.declared.Static as static-as
use Rattle.mavlink_messages.specs.declared.Message.TheVariants.{Static}
use Rattle.mavlink_messages.specs.Failures.{none}
use Rattle.mavlink_messages.specs.Static201.{static_format}
use Rattle.mavlink_messages.specs.Messages.{in_range, payload_of}
use Rattle.thm_kind_examples.specs.Octets.{with_octet}
use Rattle.thm_kind_examples.specs.Ucp.{BodyCarries, Refuses, ownship_body, ownship_value, initialization_body, initialization_with}
use Rattle.thm_kind_examples.specs.Mavlink.{header, failures, FrameCarries, FrameRefuses, static_frame, static_value, static_with}

-- every message, both ways; a report has no range
pub record EmitterRanges : Type 0 where
  pub initialization : (n : initialization-as.Initialization)
      → (initialization_format.ranges n ≡ true) ↔ ((n.emitter ≤ 21) × (is_spaced (text_octets n.callsign) ≡ true) × (n.size ≤ 15))
  pub static : (s : static-as.Static)
      → (static_format.ranges s ≡ true) ↔ ((s.icao < 0x1000000) × (is_spaced (text_octets s.callsign) ≡ true) × (s.capability ≡ 0) × (s.emitter ≤ 21) × (s.alw_encode ≤ 15) × (s.gps_lat_offs ≤ 7) × (s.gps_lon_offs ≤ 31))
  pub report : (id : ℕ) (r : report-as.Report) → (report_format id).ranges r ≡ true

-- 20, a cluster obstacle, and 21, a line obstacle, read and written; 22 behind a fault that is due before, by itself it is in Ucp
-- and in Mavlink; 255 carried by 20, as 10 and 246 do there
pub record Obstacles : Type 0 where
  pub cluster : BodyCarries (with_octet 7 20 initialization_body) (Initialization (initialization_with 0xA01234 20 15 7 31))
  pub line : BodyCarries (with_octet 7 21 initialization_body) (Initialization (initialization_with 0xA01234 21 15 7 31))
  pub subtype_2_emitter_22 : Refuses because.fixed (with_octet 2 2 (with_octet 7 22 initialization_body))
  pub static_cluster : FrameCarries (frame_of 201 header (with_octet 15 20 (payload_of (Static static_value)))) (Static (static_with 0xFFFFFF 20)) (failures 0 none)
  pub static_line : FrameCarries (frame_of 201 header (with_octet 15 21 (payload_of (Static static_value)))) (Static (static_with 0xFFFFFF 21)) (failures 0 none)
  pub static_22_unfit : in_range (Static (static_with 0xFFFFFF 22)) ≡ false
  pub traffic_255 : BodyCarries (with_octet 0 20 ownship_body) (Traffic ownship_value)
  pub wrong_check_emitter_22 : FrameRefuses because.mavlink_wrong_check (with_octet 21 22 static_frame)
