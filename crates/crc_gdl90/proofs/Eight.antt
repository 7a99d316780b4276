-- Eight octets at once: sixty-four places of the long division are sixteen places four times. Assumes nothing.
use mathlib.Core.Path.{◌≡◌, refl, sym, ap, ◌∙◌}
use mathlib.Core.Bool.{Bool}
use mathlib.Core.List.{List, [], ◌∷◌, ◌++◌, append_assoc}
use Prim.Native.Nat.{ℕ, zero, suc, ◌+◌, ◌/◌, ◌%◌, ◌^◌, ◌<◌}
use native.Mathlib.Omega.{arith}
use lib.ListN.{take, drop}
use lib.Bits.{bit_xor}
use lib.Pow.{shr-shr}
use Rattle.field_words.proofs.Pairs.{double, two_of}
use Rattle.field_words.proofs.Parts.{part}
use Rattle.field_words.specs.Words.{octets_down}
use Rattle.crc_polynomial.specs.Polynomial.{bits_of, bits_of_octets, divided}
use Rattle.crc_polynomial.proofs.Laws.{divided_append}
use Rattle.crc_polynomial.proofs.Shifts.{left}
use Rattle.crc_gdl90.proofs.Words.{eight, eight_pairs, pairs, pairs_lt}
use Rattle.crc_gdl90.proofs.Pair.{pair_step}

-- two octets, and then others
two_first : (check x y : ℕ) (others : List ℕ)
    → divided check (bits_of_octets (x ∷ y ∷ others)) ≡ divided (divided check (bits_of 8 x ++ bits_of 8 y)) (bits_of_octets others)
unfolding bits_of_octets
two_first check x y others =
    ap (divided check) (sym (append_assoc (bits_of 8 x) (bits_of 8 y) (bits_of_octets others)))
    ∙ divided_append check (bits_of 8 x ++ bits_of 8 y) (bits_of_octets others)

pairs_step : (k check word : ℕ) (others : List ℕ) → check < 65536
    → divided check (bits_of_octets (octets_down (double k) word others)) ≡ divided (pairs k check word) (bits_of_octets others)
unfolding octets_down double
pairs_step zero check word others h = refl
pairs_step (suc k) check word others h =
    let x = word / 256 % 256 in
    let y = word % 256 in
    let before = pairs k check (word / 65536) in
    pairs_step k check (word / 256 / 256) (x ∷ y ∷ others) h
    ∙ ap (λ (n : ℕ). divided (pairs k check n) (bits_of_octets (x ∷ y ∷ others))) (shr-shr word 8 8)
    ∙ two_first before x y others
    ∙ ap (λ (n : ℕ). divided n (bits_of_octets others))
    (sym (pair_step before x y (pairs_lt k check (word / 65536) h) (omega arith) (omega arith))
    ∙ ap (bit_xor (left before)) (sym (two_of word)))

pub eight_step : (check word : ℕ) → check < 65536 → word < 2 ^ 64 → eight check word ≡ divided check (bits_of_octets (octets_down 8 word []))
unfolding double bits_of_octets divided
eight_step check word hc hw = eight_pairs check word hc hw ∙ sym (pairs_step 4 check word [] hc)

pub bits_append : (xs ys : List ℕ) → bits_of_octets (xs ++ ys) ≡ bits_of_octets xs ++ bits_of_octets ys
unfolding bits_of_octets
bits_append [] ys = refl
bits_append (x ∷ xs) ys =
    ap (λ (bs : List Bool). bits_of 8 x ++ bs) (bits_append xs ys) ∙ sym (append_assoc (bits_of 8 x) (bits_of_octets xs) (bits_of_octets ys))

-- k octets from i on, and then the others
pub part_first : (k check : ℕ) (body : List ℕ) (i : ℕ) (first : List ℕ) → first ≡ take k (drop i body)
    → divided check (bits_of_octets (drop i body)) ≡ divided (divided check (bits_of_octets first)) (bits_of_octets (drop (i + k) body))
part_first k check body i first e =
    ap (λ (xs : List ℕ). divided check (bits_of_octets xs)) (part k body i e)
    ∙ ap (divided check) (bits_append first (drop (i + k) body))
    ∙ divided_append check (bits_of_octets first) (bits_of_octets (drop (i + k) body))
