-- What the raw numbers of messages 10, 11 and 20 mean (document 01, "Message kinds on the UCP line"). Assumes nothing.
use Rattle.std.specs.Prelude.{Bool, false, cond, ℕ, ◌*◌, eqb, ℤ, pos, negsuc, ◌-ℤ◌, ◌*ℤ◌, Option, Some, None}
use Rattle.std.specs.Int.Signed.{quot_z}

-- what a raw number means: nothing, or a value in the unit of its rule
pub data Meaning : Type 0 where
  no_data : Meaning
  value : ℤ → Meaning

-- what an answer says
abbrev pub meaning_of : Option ℤ → Meaning
meaning_of None = no_data
meaning_of (Some n) = value n

-- ---- the rules

-- FFF is no data, else 25 n - 1000 feet
unfoldable pub altitude_means : ℕ → Meaning
altitude_means n = cond (eqb n 0xFFF) no_data (value (pos (n * 25) -ℤ pos 1000))

-- -2048
abbrev pub is_no_rate : ℤ → Bool
is_no_rate (pos n) = false
is_no_rate (negsuc n) = eqb n 2047

-- 800 (-2048) is no data, else 64 n feet per minute
unfoldable pub rate_means : ℤ → Meaning
rate_means z = cond (is_no_rate z) no_data (value (z *ℤ pos 64))

-- steps of 5 feet
unfoldable pub geometric_means : ℤ → ℤ
geometric_means z = z *ℤ pos 5

-- 180 degrees in 2^23 steps (document 003, section 6.2.2), in whole units of 1E-7 degree: n * 180 / 2^23 * 10^7, toward zero
unfoldable pub degrees_e7 : ℤ → ℤ
degrees_e7 z = quot_z (z *ℤ pos 1800000000) (pos 8388608)
