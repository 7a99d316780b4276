-- The examples of MAVLink, by computation. Assumes nothing.
use mathlib.Core.Path.{refl}
use Rattle.crc_polynomial.specs.Polynomial.{step, reduced, polynomial}
use Rattle.crc_x25.specs.Check.{bits_up, wire_bits, next, register, mirrored, x25}
use Rattle.field_codes.specs.Codes.{is_squawk, is_emitter, is_size_code}
use Rattle.field_texts.specs.Text.{is_spaced}
use Rattle.field_signed.specs.Signed.{signed}
use Rattle.field_format.specs.Format.{body_of, value_in}
use Rattle.mavlink_frame.specs.Frame.{mavlink_kind, mavlink_frame}
use Rattle.mavlink_frame.specs.Reader.{found_of, found}
use Rattle.mavlink_messages.specs.Ranges.{static_fits, dynamic_fits, traffic_fits}
use Rattle.mavlink_messages.specs.FailureBits.{failure_bits}
use Rattle.mavlink_messages.specs.Failures.{failures_in}
use Rattle.thm_kind_examples.specs.Mavlink.{MavlinkKindExamples}

pub examples : MavlinkKindExamples
unfolding step reduced polynomial bits_up wire_bits next register mirrored x25 is_squawk is_emitter is_size_code is_spaced signed body_of value_in mavlink_kind mavlink_frame found_of found static_fits dynamic_fits traffic_fits failure_bits failures_in
examples =
    record {
      no_octet = refl;
      start_fd = refl;
      five_octets = refl;
      id_67 = refl;
      length_2 = refl;
      one_octet_short = refl;
      wrong_check = refl;
      stream = record { read = refl; fit = refl; written = refl };
      static = record { read = refl; fit = refl; written = refl };
      address_of_25_bits = refl;
      lower_case = refl;
      hyphen = refl;
      ninth_octet = refl;
      emitter_22 = refl;
      size_16 = refl;
      lateral_8 = refl;
      longitudinal_32 = refl;
      dynamic = record { read = refl; fit = refl; written = refl };
      squawk_7778 = refl;
      fix_6 = refl;
      four_failures = record { read = refl; fit = refl; written = refl };
      bit_0 = refl;
      bit_1 = refl;
      bits_2_and_3 = refl;
      bit_4 = refl;
      bit_5 = refl;
      all_bits = refl;
      traffic = record { read = refl; fit = refl; written = refl };
      squawk_of_traffic_7777 = refl;
      squawk_of_traffic_7778 = refl;
      squawk_of_traffic_65534 = refl;
    }
