-- How long a text can be. Assumes nothing.
use mathlib.Core.Bool.{Bool, true, false, cond}
use mathlib.Core.List.{List, [], ◌∷◌}
use Prim.Native.Nat.{ℕ, zero, suc, ◌+◌, ◌*◌, ◌/◌, ◌%◌, ◌^◌, ◌≤◌}
use native.Mathlib.Omega.{arith}
use lib.IntN.{ℤ, pos, negsuc, nat_abs}
use lib.ListN.{length, length-append}
use Rattle.text_output.specs.declared.Printing.TheVariants.{Escaped}
use Rattle.text_output.specs.declared.Scale.{Scale}
use Rattle.text_output.specs.declared.Scale.TheVariants.{Ones, Hundredths, Thousandths, TenMillionths}
use Rattle.text_output.specs.Text.{is_plain, backslashed, printed, minus, places, fraction, fixed_point}
use Rattle.text_output.proofs.Numerals.{numeral_most}

pub either_most : (b : Bool) (xs ys : List ℕ) {k : ℕ} → length xs ≤ k → length ys ≤ k → length (cond b xs ys) ≤ k
either_most true xs ys h g = h
either_most false xs ys h g = g

escaped_most : (x : ℕ) → length (backslashed x) ≤ 4
unfolding backslashed
escaped_most x = either_most (is_plain x) _ _ (omega arith) (omega arith)

pub printed_most : (xs : List ℕ) → length (printed Escaped xs) ≤ 4 * length xs
unfolding printed
printed_most [] = omega arith
printed_most (x ∷ xs) = simp length-append (omega (arith, escaped_most x, printed_most xs))

minus_most : (z : ℤ) → length (minus z) ≤ 1
minus_most (pos n) = omega arith
minus_most (negsuc n) = omega arith

fraction_most : (p n : ℕ) → length (fraction p n) ≤ 1 + p
fraction_most zero n = omega arith
fraction_most (suc p) n = omega (arith, numeral_most true 10 (suc p) n)

places_most : (s : Scale) → places s ≤ 7
places_most Ones = omega arith
places_most Hundredths = omega arith
places_most Thousandths = omega arith
places_most TenMillionths = omega arith

pub fixed_most : (s : Scale) (z : ℤ) → length (fixed_point s z) ≤ 29
unfolding fixed_point
fixed_most s z =
    simp length-append
    (omega (arith, places_most s, minus_most z, numeral_most false 10 20 (nat_abs z / 10 ^ places s), fraction_most (places s) (nat_abs z % 10 ^ places s)))
