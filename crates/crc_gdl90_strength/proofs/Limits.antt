-- What lies just past the strength. Assumes nothing.
use mathlib.Core.Path.{◌≡◌, refl, sym, ap, ◌∙◌}
use mathlib.Core.Bool.{Bool, true, false, xor, false≢true}
use mathlib.Core.List.{List, [], ◌∷◌, ◌++◌, append-nil}
use Prim.Native.Nat.{ℕ, zero, suc, ◌+◌, ◌*◌, ◌/◌, ◌%◌, ◌<◌, ◌≤◌}
use native.Mathlib.Omega.{arith}
use lib.ListN.{length, get_or, drop, replicate}
use lib.Bits.{bit_xor, xor_block, xor_lt, xor_zero_r}
use Rattle.crc_polynomial.specs.Polynomial.{bits_of, bits_of_octets, divided, step, reduced}
use Rattle.crc_polynomial.proofs.Xor.{xor_assoc}
use Rattle.crc_polynomial.proofs.Laws.{sum, divided_append}
use Rattle.crc_gdl90.specs.Check.{frame_check, table_entry}
use Rattle.crc_gdl90.proofs.Eight.{bits_append}
use Rattle.crc_gdl90.proofs.Step.{table_step, frame_check_lt}
use Rattle.crc_gdl90_strength.specs.BitNumbers.{differ_at, differ_below}
use Rattle.crc_gdl90_strength.specs.Limits.{far_apart, all_zero, TwoBitsUnseen, one_body, other_body, FourBitsUnseen, LastBit, LeadingZero}
use Rattle.crc_gdl90_strength.proofs.Shape.{weight}
use Rattle.crc_gdl90_strength.proofs.Caught.{difference, difference_at, count}

-- ---- a bit that is 1 stands within the list, behind those that are 0
at_most : (bs : List Bool) (k : ℕ) → get_or bs k false ≡ true → k < length bs
at_most [] k e = absurd (false≢true e)
at_most (b ∷ bs) zero e = omega arith
at_most (b ∷ bs) (suc k) e = omega (arith, at_most bs k e)

pub at_least : (m : ℕ) (rest : List Bool) (k : ℕ) → get_or (replicate m false ++ rest) k false ≡ true → m ≤ k
at_least zero rest k e = omega arith
at_least (suc m) rest zero e = absurd (false≢true e)
at_least (suc m) rest (suc k) e = omega (arith, at_least m rest k e)

-- the difference of 2C 02 2B and 2D 12 0A: its first 1 is bit 7, its last bit 23
places : (k : ℕ) → differ_at one_body other_body k ≡ true → (7 ≤ k) × (k < 24)
unfolding difference bits_of_octets bits_of sum xor
places k e =
    let i : get_or (difference one_body other_body refl) k false ≡ true = difference_at one_body other_body refl k ∙ e in
    (at_least 7 (drop 7 (difference one_body other_body refl)) k i, at_most (difference one_body other_body refl) k i)

pub four_bits_unseen : FourBitsUnseen
unfolding frame_check bits_of_octets bits_of divided step reduced differ_below xor
four_bits_unseen =
    record {
      checks = (refl, refl);
      bits = refl;
      places = λ first last p q. omega (arith, places first p, places last q);
      not_fewer = λ h. omega (arith, h 7 23 refl refl);
    }

pub two_bits_unseen : TwoBitsUnseen
unfolding frame_check bits_of_octets bits_of divided step reduced difference weight sum xor
two_bits_unseen =
    record { lengths = (refl, refl); bits = count far_apart all_zero refl ∙ refl; check = refl }

-- ---- the last bit
last_octet : (body : List ℕ) (x : ℕ) → frame_check (body ++ (x ∷ [])) ≡ divided (frame_check body) (bits_of 8 x)
unfolding frame_check bits_of_octets
last_octet body x =
    ap (divided 0) (bits_append body (x ∷ []) ∙ ap (λ (l : List Bool). bits_of_octets body ++ l) (append-nil (bits_of 8 x)))
    ∙ divided_append 0 (bits_of_octets body) (bits_of 8 x)

pub last_bit : LastBit
last_bit body x h =
    let r = frame_check body in
    last_octet body (bit_xor x 1)
    ∙ table_step r (bit_xor x 1) (frame_check_lt body) (xor_lt 8 x 1 h (omega arith))
    ∙ ap (bit_xor (table_entry (r / 256))) flipped
    ∙ sym (xor_assoc (table_entry (r / 256)) (r % 256 * 256 + x) 1)
    ∙ ap (λ (n : ℕ). bit_xor n 1) (sym (last_octet body x ∙ table_step r x (frame_check_lt body) h))
  where
    flipped : frame_check body % 256 * 256 + bit_xor x 1 ≡ bit_xor (frame_check body % 256 * 256 + x) 1
    flipped =
        sym (xor_block 8 (frame_check body % 256) 0 x 1 h (omega arith)
        ∙ ap (λ (n : ℕ). n * 256 + bit_xor x 1) (xor_zero_r (frame_check body % 256)))

-- ---- octets 00 before a body
pub leading_zero : LeadingZero
unfolding frame_check bits_of_octets bits_of divided step reduced
leading_zero body = refl
