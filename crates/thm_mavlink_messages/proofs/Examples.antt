-- The packets, by computation. Assumes nothing.
use mathlib.Core.Path.{refl}
use Rattle.field_format.specs.Format.{body_of, value_in}
use Rattle.crc_polynomial.specs.Polynomial.{step, reduced, polynomial}
use Rattle.field_codes.specs.Codes.{is_squawk, is_emitter, is_size_code}
use Rattle.field_texts.specs.Text.{is_spaced}
use Rattle.crc_x25.specs.Check.{bits_up, wire_bits, next, register, mirrored, x25}
use Rattle.mavlink_messages.specs.Ranges.{static_fits, dynamic_fits}
use Rattle.mavlink_frame.specs.Frame.{mavlink_kind, mavlink_frame}
use Rattle.mavlink_frame.specs.Reader.{found_of, found}
use Rattle.field_signed.specs.Signed.{signed}
use Rattle.thm_mavlink_messages.specs.Examples.{PacketExamples}

pub examples : PacketExamples
unfolding step reduced polynomial is_squawk is_emitter is_size_code is_spaced bits_up wire_bits next register mirrored x25 mavlink_kind mavlink_frame found_of found signed value_in body_of static_fits dynamic_fits
examples =
    record {
      nine_digits = refl;
      dynamic_read = refl;
      dynamic_written = refl;
      static_read = refl;
      static_written = refl;
    }
