-- What raw numbers mean, as numbers for C. Assumes nothing.
use Rattle.std.specs.Prelude.{◌≡◌, ℤ, pos, Option}
use Rattle.ucp_meanings.specs.Meanings.{Meaning, no_data, value, meaning_of}
use Rattle.c_ucp_meanings.specs.declared.OstrogoszMeasure.{OstrogoszMeasure}

-- known is 1 beside a value; no data has the value 0
abbrev pub measure_of : Meaning → OstrogoszMeasure
measure_of no_data = record { known = 0; value = pos 0 }
measure_of (value number) = record { known = 1; value = number }

-- what an answer is in numbers
abbrev pub IsMeasured : Option ℤ → OstrogoszMeasure → Type 0
IsMeasured known measure = measure ≡ measure_of (meaning_of known)
