-- What the ranges of 117 and 201 say of an emitter: the rule's test, and the examples by computation. Assumes nothing.
use mathlib.Core.Path.{refl}
use Rattle.crc_polynomial.specs.Polynomial.{step, reduced, polynomial}
use Rattle.crc_x25.specs.Check.{bits_up, wire_bits, next, register, mirrored, x25}
use Rattle.field_codes.specs.Codes.{is_emitter, is_size_code}
use Rattle.field_texts.specs.Text.{is_spaced}
use Rattle.field_layout.specs.Layout.{text_octets}
use Rattle.field_signed.specs.Signed.{signed, holds}
use Rattle.field_format.specs.Format.{body_of, value_in, fits}
use Rattle.ucp_answers.specs.Refusals.{refusal_by, refusal_of, reads}
use Rattle.ucp_messages.specs.Kinds.{kind_of}
use Rattle.ucp_messages.specs.Messages.{answer_as, message_fits, message_body}
use Rattle.mavlink_frame.specs.Frame.{mavlink_kind, mavlink_frame}
use Rattle.mavlink_frame.specs.Reader.{found_of, found}
use Rattle.mavlink_messages.specs.Ranges.{static_fits}
use Rattle.mavlink_messages.specs.Failures.{failures_in}
use Rattle.thm_kind_examples.specs.Emitters.{EmitterRanges, Obstacles}
use Rattle.thm_kind_examples.proofs.Tests.{most, below, equal, itself, also, anew}

pub ranges : EmitterRanges
unfolding is_emitter is_size_code static_fits
ranges =
    record {
      initialization = λ n.
          anew (also _ _ (also _ _ (most n.emitter 21) (itself (is_spaced (text_octets n.callsign)))) (most n.size 15))
          (λ ((a, b), c). (a, b, c)) (λ (a, b, c). ((a, b), c));
      static = λ s.
          anew
          (also _ _ (also _ _ (also _ _ (also _ _ (also _ _ (also _ _
          (below s.icao 0x1000000)
          (itself (is_spaced (text_octets s.callsign))))
          (equal s.capability 0))
          (most s.emitter 21))
          (most s.alw_encode 15))
          (most s.gps_lat_offs 7))
          (most s.gps_lon_offs 31))
          (λ ((((((a, b), c), d), e), f), g). (a, b, c, d, e, f, g))
          (λ (a, b, c, d, e, f, g). ((((((a, b), c), d), e), f), g));
      report = λ id r. refl;
    }

pub examples : Obstacles
unfolding step reduced polynomial bits_up wire_bits next register mirrored x25 is_emitter is_size_code is_spaced signed holds body_of value_in fits refusal_by refusal_of reads kind_of answer_as message_fits message_body mavlink_kind mavlink_frame found_of found static_fits failures_in
examples =
    record {
      cluster = record { read = refl; fit = refl; written = refl };
      line = record { read = refl; fit = refl; written = refl };
      subtype_2_emitter_22 = refl;
      static_cluster = record { read = refl; fit = refl; written = refl };
      static_line = record { read = refl; fit = refl; written = refl };
      static_22_unfit = refl;
      traffic_255 = record { read = refl; fit = refl; written = refl };
      wrong_check_emitter_22 = refl;
    }
