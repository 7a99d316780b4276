-- How long a field can be. Assumes nothing.
use mathlib.Core.Bool.{true, false}
use mathlib.Core.List.{List, [], ◌∷◌}
use Prim.Native.Nat.{ℕ, ◌+◌, ◌*◌, ◌≤◌}
use native.Mathlib.Omega.{arith}
use lib.ListN.{length, length-append}
use Rattle.text_output.specs.declared.Scale.{Scale}
use Rattle.text_output.proofs.Numerals.{numeral_most}
use Rattle.text_output.proofs.Longest.{either_most, printed_most, fixed_most}
use Rattle.std.specs.Prelude.{ℤ, Option, Some, None}
use Rattle.text_fields.specs.declared.Unit.{Unit}
use Rattle.text_fields.specs.declared.Unit.TheVariants.{Bare, Seconds, Feet, FeetPerMinute, Knots, Metres, MetresPerSecond}
use Rattle.text_fields.specs.Fields.{unit_shown, reading_shown, Value, number, reading, squawk, hexadecimal, quoted, truth, none, shown, Labelled, fields_shown}

unit_most : (u : Unit) → length (unit_shown u) ≤ 18
unit_most Bare = omega arith
unit_most Seconds = omega arith
unit_most Feet = omega arith
unit_most FeetPerMinute = omega arith
unit_most Knots = omega arith
unit_most Metres = omega arith
unit_most MetresPerSecond = omega arith

reading_most : (s : Scale) (u : Unit) (r : Option ℤ) → length (reading_shown s u r) ≤ 47
reading_most s u None = omega arith
reading_most s u (Some z) = simp length-append (omega (arith, fixed_most s z, unit_most u))

-- what a value can take, whatever the number is
abbrev pub most : Value → ℕ
most (number n) = 20
most (reading scale unit r) = 47
most (squawk n) = 4
most (hexadecimal digits n) = digits
most (quoted octets) = 2 + 4 * length octets
most (truth b) = 3
most none = 4

value_most : (v : Value) → length (shown v) ≤ most v
unfolding shown
value_most (number n) = numeral_most false 10 20 n
value_most (reading scale unit r) = reading_most scale unit r
value_most (squawk n) = numeral_most true 10 4 n
value_most (hexadecimal digits n) = numeral_most true 16 digits n
value_most (quoted octets) = simp length-append (omega (arith, printed_most octets))
value_most (truth b) = either_most b _ _ (omega arith) (omega arith)
value_most none = omega arith

abbrev pub parts_most : List Labelled → ℕ
parts_most [] = 0
parts_most (p ∷ ps) = 2 + length p.label + most p.value + parts_most ps

pub fields_most : (ps : List Labelled) → length (fields_shown ps) ≤ parts_most ps
unfolding fields_shown
fields_most [] = omega arith
fields_most (p ∷ ps) = simp length-append (omega (arith, value_most p.value, fields_most ps))
