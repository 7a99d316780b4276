-- Worked examples of the five MAVLink kinds (document 01, "MAVLink kinds"; the layouts of document 001): frames and their values, and each
-- edge from both sides. 001's own two packets are in thm_mavlink_messages. Assumes nothing.
use Rattle.std.specs.Prelude.{◌≡◌, true, false, List, [], ◌∷◌, ℕ, pos, negsuc, length, take}
use Rattle.refusals.specs.Numbers as because
use Rattle.mavlink_frame.specs.declared.Header.{Header}
use Rattle.mavlink_frame.specs.Writer.{frame_of}
use Rattle.mavlink_messages.specs.declared.DataStream as stream-as
use Rattle.mavlink_messages.specs.declared.Static as static-as
use Rattle.mavlink_messages.specs.declared.Dynamic as dynamic-as
use Rattle.mavlink_messages.specs.declared.Traffic as traffic-as
use Rattle.mavlink_messages.specs.Failures.{LowestAnswer, bit, none, FailureAnswer}
use Rattle.mavlink_messages.specs.declared.Message.{Message}
use Rattle.mavlink_messages.specs.declared.Message.TheVariants.{DataStream, Static, Dynamic, Status, Traffic}
use Rattle.mavlink_messages.specs.Messages as read_as
use Rattle.mavlink_messages.specs.Messages.{in_range, read_due, message_frame, payload_of}
use Rattle.thm_kind_examples.specs.Octets.{with_octet, letters}

abbrev pub header : Header
header = record { sequence = 1; system = 2; component = 3 }

abbrev pub failures : ℕ → LowestAnswer → FailureAnswer
failures count lowest = record { count = count; lowest = lowest }

-- the frame reads as the message, of so many octets and with these failures, and the message, which fits, is written as the frame
pub record FrameCarries (frame : List ℕ) (m : Message) (f : FailureAnswer) : Type 0 where
  pub read : read_due frame ≡ read_as.means header (length frame) m f
  pub fit : in_range m ≡ true
  pub written : message_frame m header ≡ frame

-- the reader's refusal of a frame, and of a right frame around a message's payload with another octet at one place
abbrev pub FrameRefuses : ℕ → List ℕ → Type 0
FrameRefuses number frame = read_due frame ≡ read_as.refused number

abbrev pub OutOfRange : ℕ → ℕ → ℕ → Message → Type 0
OutOfRange id place octet m = FrameRefuses because.mavlink_field (frame_of id header (with_octet place octet (payload_of m)))

-- ---- 66
abbrev pub stream_frame : List ℕ
stream_frame = 0xFE ∷ 0x06 ∷ 0x01 ∷ 0x02 ∷ 0x03 ∷ 0x42 ∷ 0x34 ∷ 0x12 ∷ 0x05 ∷ 0x06 ∷ 0x07 ∷ 0x01 ∷ 0xCE ∷ 0xF4 ∷ []

abbrev pub stream_value : stream-as.DataStream
stream_value =
    record {
      req_message_rate = 0x1234;
      target_system = 5;
      target_component = 6;
      req_stream_id = 7;
      start_stop = 1;
    }

-- ---- 201: emitter 19, size 15, lateral 7, longitudinal 31, a callsign with spaces inside
abbrev pub static_frame : List ℕ
static_frame = 0xFE ∷ 0x13 ∷ 0x01 ∷ 0x02 ∷ 0x03 ∷ 0xC9 ∷ 0xFF ∷ 0xFF ∷ 0xFF ∷ 0xFF ∷ 0x34 ∷ 0x12 ∷ 0x41 ∷ 0x20 ∷ 0x42 ∷ 0x20 ∷ 0x39 ∷ 0x5A ∷ 0x30 ∷ 0x20 ∷ 0x00 ∷ 0x13 ∷ 0x0F ∷ 0x07 ∷ 0x1F ∷ 0x11 ∷ 0x77 ∷ []

abbrev pub static_with : ℕ → ℕ → static-as.Static
static_with address emitter =
    record {
      icao = address;
      integrity = 0xFF;
      stall_speed = 0x1234;
      callsign = letters 0x41 0x20 0x42 0x20 0x39 0x5A 0x30 0x20;
      capability = 0;
      emitter = emitter;
      alw_encode = 15;
      gps_lat_offs = 7;
      gps_lon_offs = 31;
    }

abbrev pub static_value : static-as.Static
static_value = static_with 0xFFFFFF 19

-- ---- 202: squawk 7777, fix 5, signed fields on both sides of zero
abbrev pub dynamic_frame : List ℕ
dynamic_frame = 0xFE ∷ 0x2A ∷ 0x01 ∷ 0x02 ∷ 0x03 ∷ 0xCA ∷ 0xFF ∷ 0xFF ∷ 0xFF ∷ 0xFF ∷ 0x01 ∷ 0x00 ∷ 0x00 ∷ 0x80 ∷ 0xFF ∷ 0xFF ∷ 0xFF ∷ 0x7F ∷ 0xFE ∷ 0xFF ∷ 0xFF ∷ 0xFF ∷ 0x04 ∷ 0x03 ∷ 0x02 ∷ 0x01 ∷ 0x78 ∷ 0x56 ∷ 0x34 ∷ 0x12 ∷ 0x34 ∷ 0x12 ∷ 0x78 ∷ 0x56 ∷ 0x00 ∷ 0x80 ∷ 0xFF ∷ 0x7F ∷ 0xFE ∷ 0xFF ∷ 0xBC ∷ 0x9A ∷ 0x61 ∷ 0x1E ∷ 0x05 ∷ 0x06 ∷ 0x07 ∷ 0x08 ∷ 0x05 ∷ 0xF3 ∷ []

abbrev pub dynamic_value : dynamic-as.Dynamic
dynamic_value =
    record {
      utc_time = 0xFFFFFFFF;
      latitude = negsuc 2147483646;
      longitude = pos 2147483647;
      alt_pres = negsuc 1;
      alt_gnss = pos 0x01020304;
      acc_horiz = 0x12345678;
      acc_vert = 0x1234;
      acc_vel = 0x5678;
      vel_vert = negsuc 32767;
      ns_vog = pos 32767;
      ew_vog = negsuc 1;
      state = 0x9ABC;
      squawk = 7777;
      fix_type = 5;
      num_sats = 6;
      em_status = 7;
      control = 8;
    }

-- ---- 203
abbrev pub status_frame : List ℕ
status_frame = 0xFE ∷ 0x01 ∷ 0x01 ∷ 0x02 ∷ 0x03 ∷ 0xCB ∷ 0x1E ∷ 0xA1 ∷ 0xF2 ∷ []

abbrev pub status : ℕ → Message
status octet = Status (record { status = octet })

abbrev pub Reports : ℕ → ℕ → LowestAnswer → Type 0
Reports octet count lowest = read_due (frame_of 203 header (octet ∷ [])) ≡ read_as.means header 9 (status octet) (failures count lowest)

-- ---- 246: squawk 65535, a callsign and its ninth octet that no rule holds, marks that are not known
abbrev pub traffic_frame : List ℕ
traffic_frame = 0xFE ∷ 0x26 ∷ 0x01 ∷ 0x02 ∷ 0x03 ∷ 0xF6 ∷ 0x49 ∷ 0x45 ∷ 0xAB ∷ 0x00 ∷ 0xFE ∷ 0xFF ∷ 0xFF ∷ 0xFF ∷ 0x00 ∷ 0x00 ∷ 0x00 ∷ 0x80 ∷ 0xFF ∷ 0xFF ∷ 0xFF ∷ 0x7F ∷ 0x34 ∷ 0x12 ∷ 0x78 ∷ 0x56 ∷ 0xFE ∷ 0xFF ∷ 0x1F ∷ 0x81 ∷ 0xFF ∷ 0xFF ∷ 0x01 ∷ 0x6E ∷ 0x2D ∷ 0x00 ∷ 0xFF ∷ 0x80 ∷ 0x20 ∷ 0x21 ∷ 0x22 ∷ 0x41 ∷ 0xFF ∷ 0xFE ∷ 0xA7 ∷ 0x66 ∷ []

abbrev pub traffic_with : ℕ → traffic-as.Traffic
traffic_with squawk =
    record {
      icao_address = 0x00AB4549;
      lat = negsuc 1;
      lon = negsuc 2147483647;
      altitude = pos 2147483647;
      heading = 0x1234;
      hor_velocity = 0x5678;
      ver_velocity = negsuc 1;
      valid_flags = 0x811F;
      squawk = squawk;
      altitude_type = 1;
      callsign = letters 0x6E 0x2D 0x00 0xFF 0x80 0x20 0x21 0x22;
      callsign_ninth = 0x41;
      emitter_type = 0xFF;
      tslc = 0xFE;
    }

pub record MavlinkKindExamples : Type 0 where
  -- ---- the frame: the tests in their order
  pub no_octet : FrameRefuses because.mavlink_short []
  pub start_fd : FrameRefuses because.mavlink_start (0xFD ∷ [])
  pub five_octets : FrameRefuses because.mavlink_short (take 5 status_frame)
  pub id_67 : FrameRefuses because.mavlink_unknown_id (with_octet 5 67 (with_octet 1 0 status_frame))
  pub length_2 : FrameRefuses because.mavlink_length (with_octet 1 2 (take 8 status_frame))
  pub one_octet_short : FrameRefuses because.mavlink_short (take 8 status_frame)
  pub wrong_check : FrameRefuses because.mavlink_wrong_check (with_octet 6 0x1F status_frame)
  -- ---- 66
  pub stream : FrameCarries stream_frame (DataStream stream_value) (failures 0 none)
  -- ---- 201
  pub static : FrameCarries static_frame (Static static_value) (failures 0 none)
  pub address_of_25_bits : in_range (Static (static_with 0x1000000 19)) ≡ false
  pub lower_case : OutOfRange 201 6 0x61 (Static static_value)
  pub hyphen : OutOfRange 201 6 0x2D (Static static_value)
  pub ninth_octet : OutOfRange 201 14 0x20 (Static static_value)
  pub emitter_22 : OutOfRange 201 15 22 (Static static_value)
  pub size_16 : OutOfRange 201 16 16 (Static static_value)
  pub lateral_8 : OutOfRange 201 17 8 (Static static_value)
  pub longitudinal_32 : OutOfRange 201 18 32 (Static static_value)
  -- ---- 202
  pub dynamic : FrameCarries dynamic_frame (Dynamic dynamic_value) (failures 0 none)
  pub squawk_7778 : OutOfRange 202 36 0x62 (Dynamic dynamic_value)
  pub fix_6 : OutOfRange 202 38 6 (Dynamic dynamic_value)
  -- ---- 203: failure bits 1 to 4 count, the others do not
  pub four_failures : FrameCarries status_frame (status 0x1E) (failures 4 (bit 1))
  pub bit_0 : Reports 0x01 0 none
  pub bit_1 : Reports 0x02 1 (bit 1)
  pub bits_2_and_3 : Reports 0x0C 2 (bit 2)
  pub bit_4 : Reports 0x10 1 (bit 4)
  pub bit_5 : Reports 0x20 0 none
  pub all_bits : Reports 0xFF 4 (bit 1)
  -- ---- 246
  pub traffic : FrameCarries traffic_frame (Traffic (traffic_with 65535)) (failures 0 none)
  pub squawk_of_traffic_7777 : in_range (Traffic (traffic_with 7777)) ≡ true
  pub squawk_of_traffic_7778 : in_range (Traffic (traffic_with 7778)) ≡ false
  pub squawk_of_traffic_65534 : OutOfRange 246 24 0xFE (Traffic (traffic_with 65535))
