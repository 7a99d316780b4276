-- How a field is shown: its label, and its value in users' units. Assumes nothing.
use Prim.Native.String.{String}
use Rattle.std.specs.Prelude.{Bool, cond, List, [], ◌∷◌, ◌++◌, ℕ, eqb, ℤ, pos, negsuc, Option, Some, None}
use Rattle.ucp_meanings.specs.Meanings.{Meaning, no_data, value as meant_value, altitude_means, rate_means, geometric_means, degrees_e7}
use Rattle.field_layout.specs.declared.Text.{Text}
use Rattle.field_layout.specs.Layout.{text_octets}
use Rattle.text_output.specs.declared.Printing.TheVariants.{Escaped}
use Rattle.text_output.specs.declared.Base.TheVariants.{Decimal, Hexadecimal}
use Rattle.text_output.specs.declared.Scale.{Scale}
use Rattle.text_output.specs.declared.Scale.TheVariants.{Ones, TenMillionths}
use Rattle.text_output.specs.Text.{codes, printed, natural, padded, fixed_point}
use Rattle.text_fields.specs.declared.Unit.{Unit}
use Rattle.text_fields.specs.declared.Unit.TheVariants.{Bare, Seconds, Feet, FeetPerMinute, Knots, Metres, MetresPerSecond}

-- ---- readings

-- a number, or no data where it is the mark for that
abbrev pub unless : ℕ → ℤ → Option ℤ
unless mark (pos n) = cond (eqb n mark) None (Some (pos n))
unless mark (negsuc n) = Some (negsuc n)

-- what a raw number means
abbrev pub meant_reading : Meaning → Option ℤ
meant_reading no_data = None
meant_reading (meant_value z) = Some z

-- behind a number
abbrev pub unit_shown : Unit → List ℕ
unit_shown Bare = []
unit_shown Seconds = codes " seconds"
unit_shown Feet = codes " feet"
unit_shown FeetPerMinute = codes " feet per minute"
unit_shown Knots = codes " knots"
unit_shown Metres = codes " metres"
unit_shown MetresPerSecond = codes " metres per second"

abbrev pub reading_shown : Scale → Unit → Option ℤ → List ℕ
reading_shown scale unit None = codes "no data"
reading_shown scale unit (Some z) = fixed_point scale z ++ unit_shown unit

-- ---- values

pub data Value : Type 0 where
  -- a code, or a count
  number : ℕ → Value
  -- a number of small units, shown in the unit
  reading : Scale → Unit → Option ℤ → Value
  squawk : ℕ → Value
  -- so many digits
  hexadecimal : ℕ → ℕ → Value
  quoted : List ℕ → Value
  truth : Bool → Value
  none : Value

unfoldable pub shown : Value → List ℕ
shown (number n) = natural n
shown (reading scale unit r) = reading_shown scale unit r
shown (squawk n) = padded Decimal 4 n
shown (hexadecimal digits n) = padded Hexadecimal digits n
shown (quoted octets) = codes "\"" ++ (printed Escaped octets ++ codes "\"")
shown (truth b) = cond b (codes "yes") (codes "no")
shown none = codes "none"

abbrev pub quoted_text : Text → Value
quoted_text t = quoted (text_octets t)

-- ---- the raw numbers of messages 10, 11 and 20

abbrev pub report_altitude : ℕ → Value
report_altitude n = reading Ones Feet (meant_reading (altitude_means n))

abbrev pub rate : ℤ → Value
rate z = reading Ones FeetPerMinute (meant_reading (rate_means z))

abbrev pub geometric_altitude : ℤ → Value
geometric_altitude z = reading Ones Feet (Some (geometric_means z))

-- in degrees
abbrev pub angle : ℤ → Value
angle z = reading TenMillionths Bare (Some (degrees_e7 z))

-- ---- fields

-- a label with a space before and behind it, and a value
abbrev pub labelled : List ℕ → List ℕ
labelled label = codes " " ++ (label ++ codes " ")

abbrev pub field_shown : List ℕ → Value → List ℕ
field_shown label value = labelled label ++ shown value

pub record Labelled : Type 0 where
  pub label : List ℕ
  pub value : Value

infix 70 ◌is◌
abbrev pub ◌is◌ : String → Value → Labelled
label is value = record { label = codes label; value = value }

-- fields one after the other
unfoldable pub fields_shown : List Labelled → List ℕ
fields_shown [] = []
fields_shown (p ∷ ps) = field_shown p.label p.value ++ fields_shown ps
