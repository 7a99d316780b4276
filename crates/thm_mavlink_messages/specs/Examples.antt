-- The two packets of document 001, and the published check of the nine digits. Assumes nothing.
use Rattle.std.specs.Prelude.{◌≡◌, List, [], ◌∷◌, ℕ, pos, negsuc}
use Rattle.crc_x25.specs.Check.{x25}
use Rattle.mavlink_frame.specs.declared.Header.{Header}
use Rattle.mavlink_messages.specs.declared.Static as static-as
use Rattle.mavlink_messages.specs.declared.Dynamic as dynamic-as
use Rattle.mavlink_messages.specs.declared.Message.TheVariants.{Static, Dynamic}
use Rattle.mavlink_messages.specs.Messages as read_as
use Rattle.mavlink_messages.specs.Failures.{no_failures}
use Rattle.mavlink_messages.specs.Messages.{read_due, message_frame}

-- "123456789"
abbrev pub digits : List ℕ
digits = 0x31 ∷ 0x32 ∷ 0x33 ∷ 0x34 ∷ 0x35 ∷ 0x36 ∷ 0x37 ∷ 0x38 ∷ 0x39 ∷ []

abbrev pub dynamic_packet : List ℕ
dynamic_packet = 0xFE ∷ 0x2A ∷ 0x59 ∷ 0x00 ∷ 0x00 ∷ 0xCA ∷ 0x95 ∷ 0x74 ∷ 0x85 ∷ 0x45 ∷ 0x23 ∷ 0x13 ∷ 0x1F ∷ 0x16 ∷ 0x53 ∷ 0xD9 ∷ 0x45 ∷ 0xC8 ∷ 0x00 ∷ 0x00 ∷ 0x00 ∷ 0x00 ∷ 0xDD ∷ 0xBB ∷ 0x05 ∷ 0x00 ∷ 0x27 ∷ 0x32 ∷ 0x01 ∷ 0x00 ∷ 0x6E ∷ 0x00 ∷ 0x0F ∷ 0x27 ∷ 0x00 ∷ 0x00 ∷ 0xD4 ∷ 0xFE ∷ 0x82 ∷ 0x00 ∷ 0x08 ∷ 0x00 ∷ 0xB0 ∷ 0x04 ∷ 0x03 ∷ 0x05 ∷ 0x00 ∷ 0x00 ∷ 0x0D ∷ 0x57 ∷ []

-- the control octet is 0 where 001's text says 06: the octets decide
abbrev pub dynamic_message : dynamic-as.Dynamic
dynamic_message =
    record {
      utc_time = 1166374037;
      latitude = pos 371135267;
      longitude = negsuc 934946476;
      alt_pres = pos 0;
      alt_gnss = pos 375773;
      acc_horiz = 78375;
      acc_vert = 110;
      acc_vel = 9999;
      vel_vert = pos 0;
      ns_vog = negsuc 299;
      ew_vog = pos 130;
      state = 8;
      squawk = 1200;
      fix_type = 3;
      num_sats = 5;
      em_status = 0;
      control = 0;
    }

abbrev pub dynamic_header : Header
dynamic_header = record { sequence = 0x59; system = 0; component = 0 }

abbrev pub static_packet : List ℕ
static_packet = 0xFE ∷ 0x13 ∷ 0x2F ∷ 0x00 ∷ 0x00 ∷ 0xC9 ∷ 0x34 ∷ 0x12 ∷ 0xA0 ∷ 0x25 ∷ 0x00 ∷ 0x00 ∷ 0x50 ∷ 0x49 ∷ 0x4E ∷ 0x47 ∷ 0x32 ∷ 0x30 ∷ 0x32 ∷ 0x30 ∷ 0x00 ∷ 0x12 ∷ 0x01 ∷ 0x04 ∷ 0x01 ∷ 0x11 ∷ 0xFA ∷ []

-- the size code is 1 where 001's text says 0: the octets decide
abbrev pub static_message : static-as.Static
static_message =
    record {
      icao = 0xA01234;
      integrity = 0x25;
      stall_speed = 0;
      callsign = record { c0 = 0x50; c1 = 0x49; c2 = 0x4E; c3 = 0x47; c4 = 0x32; c5 = 0x30; c6 = 0x32; c7 = 0x30 };
      capability = 0;
      emitter = 0x12;
      alw_encode = 1;
      gps_lat_offs = 4;
      gps_lon_offs = 1;
    }

abbrev pub static_header : Header
static_header = record { sequence = 0x2F; system = 0; component = 0 }

pub record PacketExamples : Type 0 where
  pub nine_digits : x25 digits ≡ 0x6F91
  pub dynamic_read : read_due dynamic_packet ≡ read_as.means dynamic_header 50 (Dynamic dynamic_message) no_failures
  pub dynamic_written : message_frame (Dynamic dynamic_message) dynamic_header ≡ dynamic_packet
  pub static_read : read_due static_packet ≡ read_as.means static_header 27 (Static static_message) no_failures
  pub static_written : message_frame (Static static_message) static_header ≡ static_packet
