-- Two octets at once: sixteen places of the long division by shifts, and the octets brought down. Assumes nothing.
use mathlib.Core.Path.{◌≡◌, refl, sym, ap, ap₂, ◌∙◌}
use mathlib.Core.Bool.{false}
use mathlib.Core.List.{◌++◌}
use Prim.Native.Nat.{ℕ, ◌+◌, ◌*◌, ◌/◌, ◌<◌}
use native.Mathlib.Omega.{arith}
use native.Mathlib.Nat.{zero-add, mod-lt}
use lib.ListN.{replicate}
use lib.Bits.{bit_xor, xor_lt, xor_zero_r}
use Rattle.crc_polynomial.specs.Polynomial.{bits_of, divided}
use Rattle.crc_polynomial.proofs.Laws.{sum_zeros, divided_xor, divided_append}
use Rattle.crc_polynomial.proofs.Shifts.{quotient, left, sixteen_places}
use Rattle.crc_gdl90.proofs.Step.{octet_down}

pub pair_step : (r x y : ℕ) → r < 65536 → x < 256 → y < 256 → bit_xor (left r) (x * 256 + y) ≡ divided r (bits_of 8 x ++ bits_of 8 y)
unfolding bits_of
pair_step r x y hr hx hy =
    ap₂ bit_xor (sixteen_places r hr)
    (sym (divided_append 0 (bits_of 8 x) (bits_of 8 y)
    ∙ ap (λ (n : ℕ). divided n (bits_of 8 y)) (octet_down 0 x (omega arith) hx ∙ zero-add x)
    ∙ octet_down x y hx hy))
    ∙ sym (divided_xor r 0 (replicate 16 false) (bits_of 8 x ++ bits_of 8 y) hr (omega arith) refl)
    ∙ ap₂ divided (xor_zero_r r) (sum_zeros (bits_of 8 x ++ bits_of 8 y))

-- what the steps of the calculation need to fit
pub quotient_lt : (r : ℕ) → r < 65536 → quotient r < 65536
quotient_lt r h =
    xor_lt 16 _ _ (xor_lt 16 _ _ (xor_lt 16 _ _ (xor_lt 16 r (r / 16) h (omega arith)) (omega arith)) (omega arith)) (omega arith)

pub pair_lt : (r x y : ℕ) → x < 256 → y < 256 → bit_xor (left r) (x * 256 + y) < 65536
pair_lt r x y hx hy = xor_lt 16 (left r) (x * 256 + y) (mod-lt _ (omega arith)) (omega arith)
