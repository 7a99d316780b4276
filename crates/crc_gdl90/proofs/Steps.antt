-- The steps, as their functions take them, are places of the long division. Assumes nothing.
use mathlib.Core.Path.{◌≡◌, refl, sym, ap, ap₂, ◌∙◌}
use mathlib.Core.List.{List, [], ◌++◌}
use Prim.Native.Nat.{ℕ, ◌+◌, ◌*◌, ◌/◌, ◌%◌, ◌^◌, ◌<◌}
use native.Mathlib.Omega.{arith}
use lib.Bits.{bit_xor, xor_shifted}
use Rattle.field_words.specs.Words.{octets_down}
use Rattle.crc_polynomial.specs.Polynomial.{bits_of, bits_of_octets, divided, step, reduced}
use Rattle.crc_polynomial.proofs.Xor.{xor_assoc}
use Rattle.crc_polynomial.proofs.Linear.{up_from, everywhere}
use Rattle.crc_gdl90.proofs.Words.{eight}
use Rattle.crc_gdl90.specs.Check.{table_entry, IsTable}
use Rattle.crc_gdl90.specs.Steps.{by_table, by_shifts, two_by_shifts, eight_by_shifts}
use Rattle.crc_gdl90.proofs.Step.{table_step}
use Rattle.crc_gdl90.proofs.Pair.{pair_step}
use Rattle.crc_gdl90.proofs.Eight.{eight_step}

pub table_is : (table : List ℕ) → IsTable table → (check octet : ℕ) → check < 65536 → octet < 256
    → by_table table check octet ≡ divided check (bits_of 8 octet)
unfolding by_table
table_is table t check octet hc ho =
    ap (λ (n : ℕ). bit_xor n (check % 256 * 256 + octet)) (t (check / 256) (omega arith)) ∙ sym (table_step check octet hc ho)

-- a table's entry by shifts
entry : ℕ → ℕ
entry high =
    let fold = bit_xor high (high / 16) in
    bit_xor (bit_xor fold (fold * 32 % 65536)) (fold * 4096 % 65536)

entries : up_from table_entry 256 0 ≡ up_from entry 256 0
unfolding entry table_entry divided bits_of step reduced
entries = refl

pub shifts_is : (check octet : ℕ) → check < 65536 → octet < 256 → by_shifts check octet ≡ divided check (bits_of 8 octet)
unfolding by_shifts entry
shifts_is check octet hc ho =
    let low : check * 256 % 65536 ≡ check % 256 * 256 = omega arith in
    xor_assoc (entry (check / 256)) (check * 256 % 65536) octet
    ∙ ap₂ bit_xor (sym (everywhere table_entry entry 256 entries (check / 256) (omega arith)))
    (ap (λ (n : ℕ). bit_xor n octet) low ∙ xor_shifted (check % 256) 8 octet ho)
    ∙ sym (table_step check octet hc ho)

pub two_is : (check x y : ℕ) → check < 65536 → x < 256 → y < 256 → two_by_shifts check x y ≡ divided check (bits_of 8 x ++ bits_of 8 y)
unfolding two_by_shifts
two_is = pair_step

pub eight_is : (check word : ℕ) → check < 65536 → word < 2 ^ 64 → eight_by_shifts check word ≡ divided check (bits_of_octets (octets_down 8 word []))
unfolding eight_by_shifts eight
eight_is = eight_step
