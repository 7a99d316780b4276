-- What the three kinds' ranges say of a squawk: the laws of the rule, and the examples by computation. Assumes nothing.
use mathlib.Core.Path.{◌≡◌, refl}
use mathlib.Core.Bool.{Bool, true, false, ◌||◌, or-true}
use mathlib.Core.Logic.{◌⊎◌, inl, inr, ◌↔◌}
use Prim.Native.Nat.{ℕ}
use lib.Dec.{eqb}
use borrow.Author.Tests.{eqb-true, eq-eqb}
use Rattle.crc_polynomial.specs.Polynomial.{step, reduced, polynomial}
use Rattle.crc_x25.specs.Check.{bits_up, wire_bits, next, register, mirrored, x25}
use Rattle.field_codes.specs.Codes.{is_squawk}
use Rattle.field_codes.specs.Squawks.{FourOctalDigits}
use Rattle.field_codes.proofs.Squawks.{laws}
use Rattle.field_texts.specs.Text.{all_spaces, is_padded}
use Rattle.field_layout.specs.Layout.{text_octets}
use Rattle.field_signed.specs.Signed.{signed, holds}
use Rattle.field_format.specs.Format.{body_of, value_in, fits}
use Rattle.ucp_answers.specs.Refusals.{refusal_by, refusal_of, reads}
use Rattle.ucp_messages.specs.Kinds.{kind_of}
use Rattle.ucp_messages.specs.Messages.{answer_as, message_fits}
use Rattle.mavlink_frame.specs.Frame.{mavlink_kind, mavlink_frame}
use Rattle.mavlink_frame.specs.Reader.{found_of, found}
use Rattle.mavlink_messages.specs.Ranges.{dynamic_fits, traffic_fits}
use Rattle.thm_kind_examples.specs.Squawks.{SquawkRanges, Refuses1280}
use Rattle.thm_kind_examples.proofs.Tests.{most, itself, also}

-- of 246
or_mark : (n : ℕ) → ((is_squawk n || eqb n 65535) ≡ true) ↔ (FourOctalDigits n ⊎ (n ≡ 65535))
or_mark n = (there (is_squawk n) refl, back)
  where
    there : (t : Bool) → is_squawk n ≡ t → (is_squawk n || eqb n 65535) ≡ true → FourOctalDigits n ⊎ (n ≡ 65535)
    there true e h = inl ((laws.four_octal_digits n).0 e)
    there false e h = inr (eqb-true n 65535 (rw e at h))

    back : FourOctalDigits n ⊎ (n ≡ 65535) → (is_squawk n || eqb n 65535) ≡ true
    back (inl f) = rw ((laws.four_octal_digits n).1 f)
    back (inr e) = rw (eq-eqb n 65535 e, or-true)

pub ranges : SquawkRanges
unfolding dynamic_fits traffic_fits
ranges =
    record {
      control = λ c. also _ _ (laws.four_octal_digits c.squawk) (itself (is_padded (text_octets c.identity)));
      dynamic = λ d. also _ _ (laws.four_octal_digits d.squawk) (most d.fix_type 5);
      traffic = λ t. or_mark t.squawk;
    }

pub examples : Refuses1280
unfolding step reduced polynomial bits_up wire_bits next register mirrored x25 is_squawk all_spaces is_padded signed holds body_of value_in fits refusal_by refusal_of reads kind_of answer_as message_fits mavlink_kind mavlink_frame found_of found dynamic_fits traffic_fits
examples =
    record {
      control_1280 = refl;
      control_1280_version_2 = refl;
      control_1280_unfit = refl;
      dynamic_1280 = refl;
      traffic_1280 = refl;
      traffic_1280_unfit = refl;
    }
