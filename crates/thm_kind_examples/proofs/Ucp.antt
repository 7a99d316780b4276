-- The examples of the UCP line, by computation. Assumes nothing.
use mathlib.Core.Path.{refl}
use Rattle.field_codes.specs.Codes.{is_squawk, is_emitter, is_size_code}
use Rattle.field_texts.specs.Text.{all_spaces, is_padded, is_spaced}
use Rattle.field_signed.specs.Signed.{signed, holds}
use Rattle.field_format.specs.Format.{value_in, body_of, fits}
use Rattle.ucp_answers.specs.Refusals.{refusal_by, refusal_of, reads}
use Rattle.ucp_meanings.specs.Meanings.{altitude_means, rate_means, geometric_means, degrees_e7}
use Rattle.ucp_messages.specs.Uplink7.{uplink_fits}
use Rattle.ucp_messages.specs.Kinds.{kind_of}
use Rattle.ucp_messages.specs.Messages.{answer_as, message_fits, message_body}
use Rattle.thm_kind_examples.specs.Ucp.{UcpKindExamples}

pub examples : UcpKindExamples
unfolding is_squawk is_emitter is_size_code all_spaces is_padded is_spaced signed holds value_in body_of fits refusal_by refusal_of reads altitude_means rate_means geometric_means degrees_e7 uplink_fits kind_of answer_as message_fits message_body
examples =
    record {
      no_octet = refl;
      id_1 = refl;
      heartbeat = record { read = refl; fit = refl; written = refl };
      heartbeat_of_6 = refl;
      heartbeat_of_8 = refl;
      uplink = refl;
      uplink_of_435 = refl;
      uplink_of_437 = refl;
      payload_of_435 = refl;
      payload_written = refl;
      payload_of_434 = refl;
      payload_of_436 = refl;
      traffic = record { read = refl; fit = refl; written = refl };
      ownship = record { read = refl; fit = refl; written = refl };
      report_of_27 = refl;
      alert_16 = refl;
      address_of_25_bits = refl;
      latitude_too_low = refl;
      latitude_too_high = refl;
      rate_too_low = refl;
      rate_too_high = refl;
      altitude_1000 = refl;
      spare_16 = refl;
      altitude_fff = refl;
      altitude_ffe = refl;
      altitude_0 = refl;
      rate_800 = refl;
      rate_801 = refl;
      rate_7ff = refl;
      degrees_800000 = refl;
      degrees_000001 = refl;
      degrees_ffffff = refl;
      geometric = record { read = refl; fit = refl; written = refl };
      geometric_of_4 = refl;
      geometric_feet = refl;
      request = record { read = refl; fit = refl; written = refl };
      version_3 = refl;
      version_1 = refl;
      version_1_of_2 = refl;
      control = record { read = refl; fit = refl; written = refl };
      control_version_2 = refl;
      squawk_7778 = refl;
      squawk_256_more = refl;
      lower_case = refl;
      space_inside = refl;
      space_first = refl;
      before_0 = refl;
      behind_9 = refl;
      before_a = refl;
      behind_z = refl;
      last_octet_00 = refl;
      air_ground_3_fits = refl;
      air_ground_4_unfit = refl;
      squawk_7778_unfit = refl;
      lower_case_unfit = refl;
      no_bit = refl;
      bit_7 = refl;
      bit_6 = refl;
      bit_5 = refl;
      bit_4 = refl;
      bit_3 = refl;
      bits_2_and_1 = refl;
      bit_0 = refl;
      initialization = record { read = refl; fit = refl; written = refl };
      lateral_in_the_top_bits = record { read = refl; fit = refl; written = refl };
      signature_66 = refl;
      subtype_2 = refl;
      emitter_22 = refl;
      lower_case_callsign = refl;
      callsign_ends_in_00 = refl;
      size_16 = refl;
      address_wide = refl;
      lateral_8 = refl;
      longitudinal_32 = refl;
      emitter_22_unfit = refl;
      size_16_unfit = refl;
    }
