-- Worked examples of the eight kinds of the UCP line (document 01, "Message kinds on the UCP line"): octets and their values, and both
-- sides of each range that 01 names. Assumes nothing.
use Rattle.std.specs.Prelude.{◌≡◌, Bool, true, false, List, [], ◌∷◌, ℕ, ℤ, pos, negsuc, take, replicate}
use Rattle.refusals.specs.Numbers as because
use Rattle.ucp_meanings.specs.Meanings.{no_data, value, altitude_means, rate_means, geometric_means, degrees_e7}
use Rattle.ucp_messages.specs.declared.Heartbeat as heartbeat-as
use Rattle.ucp_messages.specs.declared.Report as report-as
use Rattle.ucp_messages.specs.declared.GeometricAltitude as geometric-as
use Rattle.ucp_messages.specs.declared.Request as request-as
use Rattle.ucp_messages.specs.declared.Control as control-as
use Rattle.ucp_messages.specs.declared.Initialization as initialization-as
use Rattle.ucp_messages.specs.declared.Message.{Message}
use Rattle.ucp_messages.specs.declared.Message.TheVariants.{Heartbeat, Uplink, Ownship, GeometricAltitude, Traffic, Request, Control, Initialization}
use Rattle.ucp_messages.specs.Messages.{refused, means, message_due, message_fits, message_body}
use Rattle.thm_kind_examples.specs.Octets.{with_octet, letters}

-- the body reads as the message, and the message, which fits, is written as the body
pub record BodyCarries (body : List ℕ) (m : Message) : Type 0 where
  pub read : message_due body ≡ means m
  pub fit : message_fits m [] ≡ true
  pub written : message_body m [] ≡ body

-- the reader's refusal of a body, and the writer's of a message
abbrev pub Refuses : ℕ → List ℕ → Type 0
Refuses number body = message_due body ≡ refused number

abbrev pub Unfit : Message → Type 0
Unfit m = message_fits m [] ≡ false

-- ---- 0: the heartbeat that the GDL90 public ICD works out
abbrev pub heartbeat_body : List ℕ
heartbeat_body = 0x00 ∷ 0x81 ∷ 0x41 ∷ 0xDB ∷ 0xD0 ∷ 0x08 ∷ 0x02 ∷ []

abbrev pub heartbeat_value : heartbeat-as.Heartbeat
heartbeat_value = record { status_1 = 0x81; status_2 = 0x41; time_stamp = 0xD0DB; counts = 0x0802 }

-- ---- 7: so many octets behind the ID
abbrev pub uplink_of : ℕ → List ℕ
uplink_of octets = 7 ∷ replicate octets 0

-- ---- 10 and 20: the traffic report that the GDL90 public ICD works out, and an ownship report with altitude FFF, rate 800,
-- latitude the least and longitude the greatest. Octet 13 has the NIC first
abbrev pub traffic_body : List ℕ
traffic_body = 0x14 ∷ 0x00 ∷ 0xAB ∷ 0x45 ∷ 0x49 ∷ 0x1F ∷ 0xEF ∷ 0x15 ∷ 0xA8 ∷ 0x89 ∷ 0x78 ∷ 0x0F ∷ 0x09 ∷ 0xA9 ∷ 0x07 ∷ 0xB0 ∷ 0x01 ∷ 0x20 ∷ 0x01 ∷ 0x4E ∷ 0x38 ∷ 0x32 ∷ 0x35 ∷ 0x56 ∷ 0x20 ∷ 0x20 ∷ 0x20 ∷ 0x00 ∷ []

abbrev pub traffic_value : report-as.Report
traffic_value =
    record {
      alert = 0;
      address_type = 0;
      address = 0xAB4549;
      latitude = pos 2092821;
      longitude = negsuc 5731975;
      altitude = 0x0F0;
      miscellaneous = 9;
      nic = 10;
      nacp = 9;
      speed = 123;
      vertical_rate = pos 1;
      track = 0x20;
      emitter = 1;
      callsign = letters 0x4E 0x38 0x32 0x35 0x56 0x20 0x20 0x20;
      emergency = 0;
      spare = 0;
    }

abbrev pub ownship_body : List ℕ
ownship_body = 0x0A ∷ 0x10 ∷ 0xFF ∷ 0xFF ∷ 0xFF ∷ 0x80 ∷ 0x00 ∷ 0x00 ∷ 0x7F ∷ 0xFF ∷ 0xFF ∷ 0xFF ∷ 0xF5 ∷ 0x3B ∷ 0xFF ∷ 0xF8 ∷ 0x00 ∷ 0xC0 ∷ 0xFF ∷ 0x61 ∷ 0x00 ∷ 0x7F ∷ 0x80 ∷ 0xFF ∷ 0x20 ∷ 0x2D ∷ 0x2E ∷ 0x12 ∷ []

abbrev pub report_with : ℕ → ℕ → ℤ → ℤ → ℕ → ℕ → report-as.Report
report_with alert address latitude rate altitude spare =
    record {
      alert = alert;
      address_type = 0;
      address = address;
      latitude = latitude;
      longitude = pos 8388607;
      altitude = altitude;
      miscellaneous = 5;
      nic = 3;
      nacp = 11;
      speed = 0xFFF;
      vertical_rate = rate;
      track = 0xC0;
      emitter = 0xFF;
      callsign = letters 0x61 0x00 0x7F 0x80 0xFF 0x20 0x2D 0x2E;
      emergency = 1;
      spare = spare;
    }

abbrev pub ownship_value : report-as.Report
ownship_value = report_with 1 0xFFFFFF (negsuc 8388607) (negsuc 2047) 0xFFF 2

-- ---- 11
abbrev pub geometric_body : List ℕ
geometric_body = 0x0B ∷ 0xFF ∷ 0xFE ∷ 0x80 ∷ 0x32 ∷ []

abbrev pub geometric_value : geometric-as.GeometricAltitude
geometric_value = record { altitude = negsuc 1; metrics = 0x8032 }

-- ---- 44
abbrev pub request_value : request-as.Request
request_value = record { requested_id = 0x2B }

-- ---- 45: squawk 7777, an altitude of -2, and spaces at the identity's end
abbrev pub control_body : List ℕ
control_body = 0x2D ∷ 0x01 ∷ 0xAB ∷ 0xFE ∷ 0xFF ∷ 0xFF ∷ 0xFF ∷ 0x61 ∷ 0x1E ∷ 0x07 ∷ 0x4E ∷ 0x39 ∷ 0x30 ∷ 0x31 ∷ 0x20 ∷ 0x20 ∷ 0x20 ∷ 0x20 ∷ []

abbrev pub control_with : ℕ → ℕ → ℕ → control-as.Control
control_with air_or_ground squawk letter =
    record {
      es_enabled = true;
      mode_s = false;
      mode_c = true;
      mode_a = false;
      ident = true;
      air_ground = air_or_ground;
      baro_checked = true;
      altitude = negsuc 1;
      squawk = squawk;
      emergency = 7;
      identity = letters letter 0x39 0x30 0x31 0x20 0x20 0x20 0x20;
    }

abbrev pub control_value : control-as.Control
control_value = control_with 1 7777 0x4E

-- the bits of octet 2 one by one, its two of the air-ground state together, with an altitude that is not known, squawk 1200 and an identity of spaces
abbrev pub bits_body : ℕ → List ℕ
bits_body bits = 0x2D ∷ 0x01 ∷ bits ∷ 0xFF ∷ 0xFF ∷ 0xFF ∷ 0x7F ∷ 0xB0 ∷ 0x04 ∷ 0x00 ∷ 0x20 ∷ 0x20 ∷ 0x20 ∷ 0x20 ∷ 0x20 ∷ 0x20 ∷ 0x20 ∷ 0x20 ∷ []

abbrev pub bits_value : Bool → Bool → Bool → Bool → Bool → ℕ → Bool → control-as.Control
bits_value es s c a ident air_or_ground baro =
    record {
      es_enabled = es;
      mode_s = s;
      mode_c = c;
      mode_a = a;
      ident = ident;
      air_ground = air_or_ground;
      baro_checked = baro;
      altitude = pos 2147483647;
      squawk = 1200;
      emergency = 0;
      identity = letters 0x20 0x20 0x20 0x20 0x20 0x20 0x20 0x20;
    }

-- ---- 117: emitter 19, a callsign with spaces inside, size 15, lateral 7 and longitudinal 31
abbrev pub initialization_body : List ℕ
initialization_body = 0x75 ∷ 0x41 ∷ 0x01 ∷ 0xFF ∷ 0x34 ∷ 0x12 ∷ 0xA0 ∷ 0x13 ∷ 0x41 ∷ 0x20 ∷ 0x42 ∷ 0x20 ∷ 0x39 ∷ 0x5A ∷ 0x30 ∷ 0x20 ∷ 0x7F ∷ 0x0F ∷ 0xFF ∷ []

abbrev pub initialization_with : ℕ → ℕ → ℕ → ℕ → ℕ → initialization-as.Initialization
initialization_with address emitter size lateral longitudinal =
    record {
      version = 0xFF;
      address = address;
      emitter = emitter;
      callsign = letters 0x41 0x20 0x42 0x20 0x39 0x5A 0x30 0x20;
      stall_speed = 0x7F;
      size = size;
      lateral = lateral;
      longitudinal = longitudinal;
    }

pub record UcpKindExamples : Type 0 where
  -- ---- an ID that no kind has, and a body with none
  pub no_octet : Refuses because.unknown_id []
  pub id_1 : Refuses because.unknown_id (0x01 ∷ [])
  -- ---- 0
  pub heartbeat : BodyCarries heartbeat_body (Heartbeat heartbeat_value)
  pub heartbeat_of_6 : Refuses because.message_length (take 6 heartbeat_body)
  pub heartbeat_of_8 : Refuses because.message_length (0x00 ∷ heartbeat_body)
  -- ---- 7
  pub uplink : message_due (uplink_of 435) ≡ means Uplink
  pub uplink_of_435 : Refuses because.message_length (uplink_of 434)
  pub uplink_of_437 : Refuses because.message_length (uplink_of 436)
  pub payload_of_435 : message_fits Uplink (replicate 435 0) ≡ true
  pub payload_written : message_body Uplink (replicate 435 0) ≡ uplink_of 435
  pub payload_of_434 : message_fits Uplink (replicate 434 0) ≡ false
  pub payload_of_436 : message_fits Uplink (replicate 436 0) ≡ false
  -- ---- 10 and 20
  pub traffic : BodyCarries traffic_body (Traffic traffic_value)
  pub ownship : BodyCarries ownship_body (Ownship ownship_value)
  pub report_of_27 : Refuses because.message_length (take 27 traffic_body)
  pub alert_16 : Unfit (Ownship (report_with 16 0xFFFFFF (negsuc 8388607) (negsuc 2047) 0xFFF 2))
  pub address_of_25_bits : Unfit (Ownship (report_with 1 0x1000000 (negsuc 8388607) (negsuc 2047) 0xFFF 2))
  pub latitude_too_low : Unfit (Ownship (report_with 1 0xFFFFFF (negsuc 8388608) (negsuc 2047) 0xFFF 2))
  pub latitude_too_high : Unfit (Ownship (report_with 1 0xFFFFFF (pos 8388608) (negsuc 2047) 0xFFF 2))
  pub rate_too_low : Unfit (Traffic (report_with 1 0xFFFFFF (negsuc 8388607) (negsuc 2048) 0xFFF 2))
  pub rate_too_high : Unfit (Traffic (report_with 1 0xFFFFFF (negsuc 8388607) (pos 2048) 0xFFF 2))
  pub altitude_1000 : Unfit (Traffic (report_with 1 0xFFFFFF (negsuc 8388607) (negsuc 2047) 0x1000 2))
  pub spare_16 : Unfit (Traffic (report_with 1 0xFFFFFF (negsuc 8388607) (negsuc 2047) 0xFFF 16))
  pub altitude_fff : altitude_means 0xFFF ≡ no_data
  pub altitude_ffe : altitude_means 0xFFE ≡ value (pos 101350)
  pub altitude_0 : altitude_means 0 ≡ value (negsuc 999)
  pub rate_800 : rate_means (negsuc 2047) ≡ no_data
  pub rate_801 : rate_means (negsuc 2046) ≡ value (negsuc 131007)
  pub rate_7ff : rate_means (pos 2047) ≡ value (pos 131008)
  -- a latitude and a longitude: -180 degrees, and the least step to either side, 214.58 of 1E-7 degree, toward zero
  pub degrees_800000 : degrees_e7 (negsuc 8388607) ≡ negsuc 1799999999
  pub degrees_000001 : degrees_e7 (pos 1) ≡ pos 214
  pub degrees_ffffff : degrees_e7 (negsuc 0) ≡ negsuc 213
  -- ---- 11
  pub geometric : BodyCarries geometric_body (GeometricAltitude geometric_value)
  pub geometric_of_4 : Refuses because.message_length (take 4 geometric_body)
  pub geometric_feet : geometric_means (negsuc 1) ≡ negsuc 9
  -- ---- 44: the length is tested before the version
  pub request : BodyCarries (0x2C ∷ 0x02 ∷ 0x2B ∷ []) (Request request_value)
  pub version_3 : Refuses because.fixed (0x2C ∷ 0x03 ∷ 0x2B ∷ [])
  pub version_1 : Refuses because.fixed (0x2C ∷ 0x01 ∷ 0x2B ∷ [])
  pub version_1_of_2 : Refuses because.message_length (0x2C ∷ 0x01 ∷ [])
  -- ---- 45: the version is tested before the ranges
  pub control : BodyCarries control_body (Control control_value)
  pub control_version_2 : Refuses because.fixed (with_octet 1 0x02 (with_octet 7 0x62 control_body))
  pub squawk_7778 : Refuses because.field (with_octet 7 0x62 control_body)
  pub squawk_256_more : Refuses because.field (with_octet 8 0x1F control_body)
  pub lower_case : Refuses because.field (with_octet 10 0x6E control_body)
  pub space_inside : Refuses because.field (with_octet 11 0x20 control_body)
  pub space_first : Refuses because.field (with_octet 10 0x20 control_body)
  pub before_0 : Refuses because.field (with_octet 11 0x2F control_body)
  pub behind_9 : Refuses because.field (with_octet 11 0x3A control_body)
  pub before_a : Refuses because.field (with_octet 11 0x40 control_body)
  pub behind_z : Refuses because.field (with_octet 11 0x5B control_body)
  pub last_octet_00 : Refuses because.field (with_octet 17 0x00 control_body)
  pub air_ground_3_fits : message_fits (Control (control_with 3 7777 0x4E)) [] ≡ true
  pub air_ground_4_unfit : Unfit (Control (control_with 4 7777 0x4E))
  pub squawk_7778_unfit : Unfit (Control (control_with 1 7778 0x4E))
  pub lower_case_unfit : Unfit (Control (control_with 1 7777 0x6E))
  pub no_bit : message_due (bits_body 0x00) ≡ means (Control (bits_value false false false false false 0 false))
  pub bit_7 : message_due (bits_body 0x80) ≡ means (Control (bits_value true false false false false 0 false))
  pub bit_6 : message_due (bits_body 0x40) ≡ means (Control (bits_value false true false false false 0 false))
  pub bit_5 : message_due (bits_body 0x20) ≡ means (Control (bits_value false false true false false 0 false))
  pub bit_4 : message_due (bits_body 0x10) ≡ means (Control (bits_value false false false true false 0 false))
  pub bit_3 : message_due (bits_body 0x08) ≡ means (Control (bits_value false false false false true 0 false))
  pub bits_2_and_1 : message_due (bits_body 0x06) ≡ means (Control (bits_value false false false false false 3 false))
  pub bit_0 : message_due (bits_body 0x01) ≡ means (Control (bits_value false false false false false 0 true))
  -- ---- 117
  pub initialization : BodyCarries initialization_body (Initialization (initialization_with 0xA01234 19 15 7 31))
  pub lateral_in_the_top_bits : BodyCarries (with_octet 18 0x21 initialization_body) (Initialization (initialization_with 0xA01234 19 15 1 1))
  pub signature_66 : Refuses because.fixed (with_octet 1 66 initialization_body)
  pub subtype_2 : Refuses because.fixed (with_octet 2 2 initialization_body)
  pub emitter_22 : Refuses because.field (with_octet 7 22 initialization_body)
  pub lower_case_callsign : Refuses because.field (with_octet 8 0x61 initialization_body)
  pub callsign_ends_in_00 : Refuses because.field (with_octet 15 0x00 initialization_body)
  pub size_16 : Refuses because.field (with_octet 17 16 initialization_body)
  pub address_wide : Unfit (Initialization (initialization_with 0x1000000 19 15 7 31))
  pub lateral_8 : Unfit (Initialization (initialization_with 0xA01234 19 15 8 31))
  pub longitudinal_32 : Unfit (Initialization (initialization_with 0xA01234 19 15 7 32))
  pub emitter_22_unfit : Unfit (Initialization (initialization_with 0xA01234 22 15 7 31))
  pub size_16_unfit : Unfit (Initialization (initialization_with 0xA01234 19 16 7 31))
