-- Bodies that meet the premises of the check's reach, and are caught by it. Assumes nothing.
use mathlib.Core.Path.{◌≡◌, refl, ap, ◌∙◌}
use mathlib.Core.Bool.{xor}
use mathlib.Core.List.{List}
use Prim.Native.Nat.{ℕ, ◌*◌, ◌%◌}
use native.Mathlib.Omega.{arith}
use Rattle.crc_polynomial.specs.Polynomial.{bits_of, bits_of_octets}
use Rattle.crc_polynomial.proofs.Laws.{sum}
use Rattle.crc_gdl90_strength.specs.BitNumbers.{differ_below}
use Rattle.crc_gdl90_strength.specs.Strength.{TwoBodies}
use Rattle.crc_gdl90_strength.proofs.Shape.{weight}
use Rattle.crc_gdl90_strength.proofs.Caught.{difference, count, reach}
use Rattle.crc_gdl90_strength.proofs.Limits.{four_bits_unseen, two_bits_unseen}
use Rattle.crc_gdl90_strength.proofs.Premises.{bodies}
use Rattle.thm_ucp_examples.specs.ReachPremises.{zero_between, ReachMet}

abbrev five : List ℕ
five = zero_between 0xE0 4094 0x03

abbrev two : List ℕ
two = zero_between 0x80 4093 0x01

five_apart : differ_below (zero_between 0x00 4094 0x00) five (8 * 4096) ≡ 5
unfolding difference bits_of_octets bits_of sum xor weight
five_apart = count (zero_between 0x00 4094 0x00) five refl ∙ refl

two_apart : differ_below (zero_between 0x00 4093 0x00) two (8 * 4095) ≡ 2
unfolding difference bits_of_octets bits_of sum xor weight
two_apart = count (zero_between 0x00 4093 0x00) two refl ∙ refl

five_bodies : TwoBodies (zero_between 0x00 4094 0x00) five
five_bodies = bodies (zero_between 0x00 4094 0x00) five 0 refl refl refl (omega arith)

two_bodies : TwoBodies (zero_between 0x00 4093 0x00) two
two_bodies = bodies (zero_between 0x00 4093 0x00) two 0 refl refl refl (omega arith)

pub reach_met : ReachMet
reach_met =
    record {
      odd_bits =
          record {
            bodies = five_bodies;
            long = refl;
            apart = five_apart;
            caught = reach.odd_bits _ _ five_bodies (ap (λ (n : ℕ). n % 2) five_apart);
          };
      even_bits = four_bits_unseen;
      two_bits =
          record {
            bodies = two_bodies;
            long = refl;
            apart = two_apart;
            caught = reach.three_bits _ _ two_bodies (omega arith) (omega (arith, two_apart));
          };
      one_octet_more = two_bits_unseen;
    }
