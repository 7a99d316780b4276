-- 001's code computes the X.25 check: its step is the step by shifts. Assumes nothing.
use mathlib.Core.Path.{◌≡◌, sym, ap, ap₂, subst, ◌∙◌}
use mathlib.Core.List.{List, [], ◌∷◌}
use Prim.Native.Nat.{ℕ, suc, ◌*◌, ◌/◌, ◌%◌, ◌<◌}
use native.Mathlib.Omega.{arith}
use native.Mathlib.Nat.{mod-eq_of_lt}
use lib.Bits.{bit_and, bit_xor, and_mask, xor_mod, xor_shr, xor_comm, xor_zero_r}
use Rattle.crc_polynomial.specs.Polynomial.{Octets, degree16}
use Rattle.crc_x25.specs.Check.{x25, x25_from}
use Rattle.crc_x25.specs.CrcCode.{x25_init_crc, uint8, uint16, crc_accumulate, crc_accumulate_buffer, crc_calculate}
use Rattle.crc_x25.proofs.Shifts.{fold, shifted}
use Rattle.crc_x25.proofs.Step.{octet_step, from_lt, from_append, from_none, starts}

-- the check's low octet
low : (check : ℕ) → uint8 (bit_and check 0xFF) % 256 ≡ check % 256
low check =
    let twice : check % 256 % 256 % 256 ≡ check % 256 = omega arith in
    ap (λ (n : ℕ). n % 256 % 256) (and_mask check 8) ∙ twice

-- and the octet that meets it
met : (octet check : ℕ) → uint8 (bit_xor octet (uint8 (bit_and check 0xFF))) ≡ bit_xor check octet % 256
met octet check =
    xor_mod octet (uint8 (bit_and check 0xFF)) 8
    ∙ ap (bit_xor (octet % 256)) (low check)
    ∙ xor_comm (octet % 256) (check % 256)
    ∙ sym (xor_mod check octet 8)

-- its high octet meets none
high : (octet check : ℕ) → octet < 256 → check / 256 ≡ bit_xor check octet / 256
high octet check h =
    let none : octet / 256 ≡ 0 = omega arith in
    sym (xor_shr check octet 8 ∙ ap (bit_xor (check / 256)) none ∙ xor_zero_r (check / 256))

abbrev joined : ℕ → ℕ → ℕ
joined above below = bit_xor (bit_xor (bit_xor above (fold below * 256)) (fold below * 8)) (fold below / 16)

accumulated : (octet check : ℕ) → check < degree16 → octet < 256 → crc_accumulate octet check ≡ x25_from check (octet ∷ [])
unfolding crc_accumulate shifted
accumulated octet check hc hd =
    let step = octet_step check octet hc hd in
    let fits : shifted (bit_xor check octet) < degree16 = subst (λ (n : ℕ). n < degree16) (sym step) (from_lt check (octet ∷ [])) in
    ap uint16 (ap₂ joined (high octet check hd) (met octet check)) ∙ mod-eq_of_lt fits ∙ step

buffer_is : (check : ℕ) (octets : List ℕ) → check < degree16 → Octets octets → crc_accumulate_buffer check octets ≡ x25_from check octets
unfolding crc_accumulate_buffer
buffer_is check [] hc o = from_none check hc
buffer_is check (x ∷ xs) hc o =
    let one = accumulated x check hc (o 0) in
    ap (λ (n : ℕ). crc_accumulate_buffer n xs) one
    ∙ buffer_is (x25_from check (x ∷ [])) xs (from_lt check (x ∷ [])) (λ i. o (suc i))
    ∙ sym (from_append check (x ∷ []) xs)

pub by_code : (octets : List ℕ) → Octets octets → crc_calculate octets ≡ x25 octets
by_code octets o = buffer_is x25_init_crc octets (omega arith) o ∙ starts octets
