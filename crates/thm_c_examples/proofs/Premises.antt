-- The premises of the linked calls through structs are met, by computation. Assumes nothing.
use mathlib.Core.Path.{◌≡◌, refl}
use Prim.Native.Nat.{ℕ}
use native.Mathlib.Omega.{arith}
use Rattle.crc_polynomial.specs.Polynomial.{bits_of_octets, bits_of, divided, step, reduced, polynomial}
use Rattle.crc_gdl90.specs.Check.{frame_check}
use Rattle.crc_x25.specs.Check.{bits_up, wire_bits, next, register, mirrored, x25}
use Rattle.crc_gdl90_strength.proofs.Premises.{octets}
use Rattle.field_codes.specs.Codes.{is_squawk, is_emitter, is_size_code}
use Rattle.field_texts.specs.Text.{all_spaces, is_padded, is_spaced}
use Rattle.field_signed.specs.Signed.{signed, holds}
use Rattle.field_format.specs.Format.{value_in, body_of, fits}
use Rattle.ucp_frame.specs.Frame.{escaped, stuffed, frame}
use Rattle.ucp_writer.specs.Room.{frame_due}
use Rattle.ucp_writer.specs.Sends.{send_due}
use Rattle.ucp_answers.specs.Writes.{body_due}
use Rattle.ucp_answers.specs.Refusals.{refusal_by, refusal_of}
use Rattle.ucp_messages.specs.Uplink7.{uplink_fits}
use Rattle.mavlink_frame.specs.Frame.{mavlink_kind, mavlink_frame}
use Rattle.mavlink_frame.specs.Reader.{found_of, found}
use Rattle.mavlink_messages.specs.Ranges.{static_fits, dynamic_fits, traffic_fits}
use Rattle.c_lent.specs.Structs.{stored, held}
use Rattle.c_lent.specs.Reads.{refusal_as}
use Rattle.c_mavlink.specs.Readers.{found_as}
use Rattle.thm_kind_examples.specs.Octets.{with_octet}
use Rattle.thm_c_examples.specs.Structs.{heartbeat_held, report_held, geometric_held, request_held, initialization_held, header_held, stream_held, static_held, dynamic_held, status_held, traffic_held}
use Rattle.thm_c_examples.specs.Premises.{control_given, with_squawk, StructPremises}

pub struct_premises : StructPremises
unfolding is_squawk is_emitter is_size_code all_spaces is_padded is_spaced signed holds value_in body_of fits refusal_by refusal_of refusal_as uplink_fits stored held static_fits dynamic_fits traffic_fits step reduced polynomial bits_up wire_bits next register mirrored x25 mavlink_kind mavlink_frame found_of found found_as bits_of_octets bits_of divided frame_check escaped stuffed frame frame_due send_due body_due
struct_premises =
    record {
      heartbeat = record { small = octets heartbeat_held refl; size = refl; fit = refl; read = record { answers = refl; leaves = refl } };
      uplink_435 = refl;
      uplink_434 = refl;
      uplink_436 = refl;
      ownship = record { small = octets report_held refl; size = refl; fit = refl; read = record { answers = refl; leaves = refl } };
      traffic = record { small = octets report_held refl; size = refl; fit = refl; read = record { answers = refl; leaves = refl } };
      alert_15 = record { small = octets (with_octet 0 15 report_held) refl; size = refl; fit = refl; read = record { answers = refl; leaves = refl } };
      alert_16 = refl;
      geometric = record { small = octets geometric_held refl; size = refl; fit = refl; read = record { answers = refl; leaves = refl } };
      request = record { small = octets request_held refl; size = refl; fit = refl; read = record { answers = refl; leaves = refl } };
      squawk_7777 = record { small = octets (with_squawk 12 0x61 control_given) refl; size = refl; fit = refl; read = record { answers = refl; leaves = refl } };
      squawk_7778 = refl;
      emitter_21 = record { small = octets (with_octet 8 21 initialization_held) refl; size = refl; fit = refl; read = record { answers = refl; leaves = refl } };
      emitter_22 = refl;
      not_longer = λ m. let z : ◌≡◌ {A = ℕ} 2 1 = m.size in omega arith;
      not_octet = λ m. omega (arith, m.small 0);
      written = record { answers = refl; leaves = refl };
      sent = record { answers = refl; leaves = refl };
      not_written = record { answers = refl; leaves = refl };
      not_sent = record { answers = refl; leaves = refl };
      header_small = octets header_held refl;
      header_size = refl;
      stream = record { small = octets stream_held refl; size = refl; fit = refl };
      static_emitter_21 = record { small = octets (with_octet 15 21 static_held) refl; size = refl; fit = refl };
      static_emitter_22 = refl;
      static_address = refl;
      dynamic_7777 = record { small = octets (with_squawk 36 0x61 dynamic_held) refl; size = refl; fit = refl };
      dynamic_7778 = refl;
      status = record { small = octets status_held refl; size = refl; fit = refl };
      traffic_7777 = record { small = octets (with_squawk 24 0x61 traffic_held) refl; size = refl; fit = refl };
      traffic_7778 = refl;
      status_read = record { answers = refl; leaves_header = refl; leaves_message = refl };
    }
