-- Worked examples of the C structs: octets, and the fields that stand in them by name, so that each field has its offset (the System V
-- ABI for x86-64, numbers little-endian). Octets differ where the ranges allow it; padding is 0. Assumes nothing.
use Rattle.std.specs.Prelude.{◌≡◌, Bool, true, false, List, [], ◌∷◌, ℕ, pos, negsuc}
use Rattle.field_layout.specs.Layout.{bit_of}
use Rattle.mavlink_frame.specs.declared.Header.{Header}
use Rattle.mavlink_messages.specs.declared.DataStream as stream-as
use Rattle.mavlink_messages.specs.declared.Static as static-as
use Rattle.mavlink_messages.specs.declared.Dynamic as dynamic-as
use Rattle.mavlink_messages.specs.declared.Status as status-as
use Rattle.mavlink_messages.specs.declared.Traffic as traffic-as
use Rattle.ucp_messages.specs.declared.Heartbeat as heartbeat-as
use Rattle.ucp_messages.specs.declared.Report as report-as
use Rattle.ucp_messages.specs.declared.GeometricAltitude as geometric-as
use Rattle.ucp_messages.specs.declared.Request as request-as
use Rattle.ucp_messages.specs.declared.Control as control-as
use Rattle.ucp_messages.specs.declared.Initialization as initialization-as
use Rattle.c_lent.specs.Structs.{Struct, stored, held}
use Rattle.c_ucp_heartbeat.specs.Struct.{heartbeat_struct}
use Rattle.c_ucp_report.specs.Struct.{report_struct}
use Rattle.c_ucp_geometric_altitude.specs.Struct.{geometric_struct}
use Rattle.c_ucp_request.specs.Struct.{request_struct}
use Rattle.c_ucp_control.specs.Struct.{control_struct}
use Rattle.c_ucp_initialization.specs.Struct.{initialization_struct}
use Rattle.c_mavlink.specs.Structs.{header_struct, data_stream_struct, static_struct, dynamic_struct, status_struct, traffic_struct}
use Rattle.thm_kind_examples.specs.Octets.{with_octet, letters}

-- the octets of the struct hold the value, and the value is stored as the octets
pub record StructCarries {A : Type 0} (s : Struct A) (octets : List ℕ) (a : A) : Type 0 where
  pub reads : held s octets ≡ a
  pub stores : stored s a ≡ octets

-- ---- 0
abbrev pub heartbeat_held : List ℕ
heartbeat_held = 0x01 ∷ 0x02 ∷ 0x03 ∷ 0x04 ∷ 0x05 ∷ 0x06 ∷ []

abbrev pub heartbeat_in : heartbeat-as.Heartbeat
heartbeat_in =
    record {
      status_1 = 0x01;
      status_2 = 0x02;
      time_stamp = 0x0403;
      counts = 0x0605;
    }

-- ---- 10 and 20
abbrev pub report_held : List ℕ
report_held = 0x01 ∷ 0x02 ∷ 0x00 ∷ 0x00 ∷ 0x11 ∷ 0x12 ∷ 0x13 ∷ 0x00 ∷ 0x14 ∷ 0x15 ∷ 0x16 ∷ 0x00 ∷ 0x17 ∷ 0x18 ∷ 0x99 ∷ 0xFF ∷ 0x1A ∷ 0x0B ∷ 0x03 ∷ 0x04 ∷ 0x05 ∷ 0x00 ∷ 0x1C ∷ 0x0D ∷ 0x1E ∷ 0xF9 ∷ 0x20 ∷ 0x21 ∷ 0x41 ∷ 0x42 ∷ 0x43 ∷ 0x44 ∷ 0x45 ∷ 0x46 ∷ 0x47 ∷ 0x48 ∷ 0x06 ∷ 0x07 ∷ 0x00 ∷ 0x00 ∷ []

abbrev pub report_in : report-as.Report
report_in =
    record {
      alert = 0x01;
      address_type = 0x02;
      address = 0x00131211;
      latitude = pos 1447188;
      longitude = negsuc 6744040;
      altitude = 0x0B1A;
      miscellaneous = 0x03;
      nic = 0x04;
      nacp = 0x05;
      speed = 0x0D1C;
      vertical_rate = negsuc 1761;
      track = 0x20;
      emitter = 0x21;
      callsign = letters 0x41 0x42 0x43 0x44 0x45 0x46 0x47 0x48;
      emergency = 0x06;
      spare = 0x07;
    }

-- ---- 11
abbrev pub geometric_held : List ℕ
geometric_held = 0xFE ∷ 0xFC ∷ 0x01 ∷ 0x02 ∷ []

abbrev pub geometric_in : geometric-as.GeometricAltitude
geometric_in =
    record {
      altitude = negsuc 769;
      metrics = 0x0201;
    }

-- ---- 44
abbrev pub request_held : List ℕ
request_held = 0x2B ∷ []

abbrev pub request_in : request-as.Request
request_in =
    record {
      requested_id = 0x2B;
    }

-- ---- 45: its six bools are told apart by three examples
abbrev pub control_held : Bool → Bool → Bool → Bool → Bool → Bool → List ℕ
control_held es s c a ident baro =
    bit_of es ∷ bit_of s ∷ bit_of c ∷ bit_of a ∷ bit_of ident ∷ 0x02 ∷ bit_of baro ∷ 0x00 ∷ 0x11 ∷ 0x12 ∷ 0x13 ∷ 0x94 ∷ 0x34 ∷ 0x12 ∷ 0x07 ∷ 0x41 ∷ 0x42 ∷ 0x43 ∷ 0x44 ∷ 0x45 ∷ 0x46 ∷ 0x47 ∷ 0x48 ∷ 0x00 ∷ []

abbrev pub control_in : Bool → Bool → Bool → Bool → Bool → Bool → control-as.Control
control_in es s c a ident baro =
    record {
      es_enabled = es;
      mode_s = s;
      mode_c = c;
      mode_a = a;
      ident = ident;
      air_ground = 2;
      baro_checked = baro;
      altitude = negsuc 1810689518;
      squawk = 4660;
      emergency = 7;
      identity = letters 0x41 0x42 0x43 0x44 0x45 0x46 0x47 0x48;
    }

-- ---- 117
abbrev pub initialization_held : List ℕ
initialization_held = 0x11 ∷ 0x00 ∷ 0x00 ∷ 0x00 ∷ 0x12 ∷ 0x13 ∷ 0x14 ∷ 0x00 ∷ 0x05 ∷ 0x41 ∷ 0x42 ∷ 0x43 ∷ 0x44 ∷ 0x45 ∷ 0x46 ∷ 0x47 ∷ 0x48 ∷ 0x15 ∷ 0x06 ∷ 0x03 ∷ 0x04 ∷ 0x00 ∷ 0x00 ∷ 0x00 ∷ []

abbrev pub initialization_in : initialization-as.Initialization
initialization_in =
    record {
      version = 0x11;
      address = 0x00141312;
      emitter = 0x05;
      callsign = letters 0x41 0x42 0x43 0x44 0x45 0x46 0x47 0x48;
      stall_speed = 0x15;
      size = 0x06;
      lateral = 0x03;
      longitudinal = 0x04;
    }

-- ---- the header of a MAVLink frame
abbrev pub header_held : List ℕ
header_held = 0x01 ∷ 0x02 ∷ 0x03 ∷ []

abbrev pub header_in : Header
header_in =
    record {
      sequence = 0x01;
      system = 0x02;
      component = 0x03;
    }

-- ---- 66
abbrev pub stream_held : List ℕ
stream_held = 0x01 ∷ 0x02 ∷ 0x03 ∷ 0x04 ∷ 0x05 ∷ 0x06 ∷ []

abbrev pub stream_in : stream-as.DataStream
stream_in =
    record {
      req_message_rate = 0x0201;
      target_system = 0x03;
      target_component = 0x04;
      req_stream_id = 0x05;
      start_stop = 0x06;
    }

-- ---- 201
abbrev pub static_held : List ℕ
static_held = 0x11 ∷ 0x12 ∷ 0x13 ∷ 0x00 ∷ 0x14 ∷ 0x15 ∷ 0x41 ∷ 0x42 ∷ 0x43 ∷ 0x44 ∷ 0x45 ∷ 0x46 ∷ 0x47 ∷ 0x48 ∷ 0x00 ∷ 0x06 ∷ 0x07 ∷ 0x05 ∷ 0x08 ∷ 0x09 ∷ []

abbrev pub static_in : static-as.Static
static_in =
    record {
      icao = 0x00131211;
      stall_speed = 0x1514;
      callsign = letters 0x41 0x42 0x43 0x44 0x45 0x46 0x47 0x48;
      capability = 0x00;
      emitter = 0x06;
      alw_encode = 0x07;
      gps_lat_offs = 0x05;
      gps_lon_offs = 0x08;
      integrity = 0x09;
    }

-- ---- 202
abbrev pub dynamic_held : List ℕ
dynamic_held = 0x41 ∷ 0x02 ∷ 0x03 ∷ 0x04 ∷ 0x45 ∷ 0x06 ∷ 0x07 ∷ 0x88 ∷ 0x09 ∷ 0x0A ∷ 0x0B ∷ 0x0C ∷ 0x0D ∷ 0x0E ∷ 0x0F ∷ 0x90 ∷ 0x11 ∷ 0x12 ∷ 0x13 ∷ 0x14 ∷ 0x15 ∷ 0x16 ∷ 0x17 ∷ 0x18 ∷ 0x19 ∷ 0x1A ∷ 0x1B ∷ 0x1C ∷ 0x1D ∷ 0x9E ∷ 0x1F ∷ 0x20 ∷ 0x21 ∷ 0xA2 ∷ 0x23 ∷ 0x24 ∷ 0x61 ∷ 0x1E ∷ 0x01 ∷ 0x28 ∷ 0x29 ∷ 0x2A ∷ 0x00 ∷ 0x00 ∷ []

abbrev pub dynamic_in : dynamic-as.Dynamic
dynamic_in =
    record {
      utc_time = 0x04030241;
      latitude = negsuc 2012805562;
      longitude = pos 202050057;
      alt_pres = negsuc 1878061554;
      alt_gnss = pos 336794129;
      acc_horiz = 0x18171615;
      acc_vert = 0x1A19;
      acc_vel = 0x1C1B;
      vel_vert = negsuc 25058;
      ns_vog = pos 8223;
      ew_vog = negsuc 24030;
      state = 0x2423;
      squawk = 7777;
      fix_type = 0x01;
      num_sats = 0x28;
      em_status = 0x29;
      control = 0x2A;
    }

-- ---- 203
abbrev pub status_held : List ℕ
status_held = 0x1E ∷ []

abbrev pub status_in : status-as.Status
status_in =
    record {
      status = 0x1E;
    }

-- ---- 246
abbrev pub traffic_held : List ℕ
traffic_held = 0x11 ∷ 0x12 ∷ 0x13 ∷ 0x14 ∷ 0x15 ∷ 0x16 ∷ 0x17 ∷ 0x98 ∷ 0x19 ∷ 0x1A ∷ 0x1B ∷ 0x1C ∷ 0x1D ∷ 0x1E ∷ 0x1F ∷ 0xA0 ∷ 0x21 ∷ 0x22 ∷ 0x23 ∷ 0x24 ∷ 0x25 ∷ 0xA6 ∷ 0x27 ∷ 0x28 ∷ 0xB0 ∷ 0x04 ∷ 0x01 ∷ 0x41 ∷ 0x42 ∷ 0x43 ∷ 0x44 ∷ 0x45 ∷ 0x46 ∷ 0x47 ∷ 0x48 ∷ 0x49 ∷ 0x02 ∷ 0x03 ∷ 0x00 ∷ 0x00 ∷ []

abbrev pub traffic_in : traffic-as.Traffic
traffic_in =
    record {
      icao_address = 0x14131211;
      lat = negsuc 1743317482;
      lon = pos 471538201;
      altitude = negsuc 1608573410;
      heading = 0x2221;
      hor_velocity = 0x2423;
      ver_velocity = negsuc 23002;
      valid_flags = 0x2827;
      squawk = 1200;
      altitude_type = 0x01;
      callsign = letters 0x41 0x42 0x43 0x44 0x45 0x46 0x47 0x48;
      callsign_ninth = 0x49;
      emitter_type = 0x02;
      tslc = 0x03;
    }

pub record StructExamples : Type 0 where
  pub heartbeat : StructCarries heartbeat_struct heartbeat_held heartbeat_in
  pub report : StructCarries report_struct report_held report_in
  pub geometric : StructCarries geometric_struct geometric_held geometric_in
  pub request : StructCarries request_struct request_held request_in
  pub es_c_ident : StructCarries control_struct (control_held true false true false true false) (control_in true false true false true false)
  pub s_c_baro : StructCarries control_struct (control_held false true true false false true) (control_in false true true false false true)
  pub a_ident_baro : StructCarries control_struct (control_held false false false true true true) (control_in false false false true true true)
  -- a bool that is neither 0 nor 1 is yes
  pub any_octet_but_0 :
      held control_struct (with_octet 0 0x02 (with_octet 2 0x80 (with_octet 4 0xFF (control_held false false false false false false))))
      ≡ control_in true false true false true false
  pub initialization : StructCarries initialization_struct initialization_held initialization_in
  pub header : StructCarries header_struct header_held header_in
  pub stream : StructCarries data_stream_struct stream_held stream_in
  pub static : StructCarries static_struct static_held static_in
  pub dynamic : StructCarries dynamic_struct dynamic_held dynamic_in
  pub status : StructCarries status_struct status_held status_in
  pub traffic : StructCarries traffic_struct traffic_held traffic_in
