-- Signed numbers by two's complement: `half` is 2 to the number of bits less one. Assumes nothing.
use Rattle.std.specs.Prelude.{Bool, cond, ℕ, suc, ◌-◌, ◌*◌, ltb, ℤ, pos, negsuc}
use Rattle.std.specs.Int.Signed.{mag}

-- the signed number that the bits mean
unfoldable pub signed : ℕ → ℕ → ℤ
signed half n = cond (ltb n half) (pos n) (negsuc (half * 2 - suc n))

-- the bits that mean a signed number
abbrev pub complement : ℕ → ℤ → ℕ
complement half (pos n) = n
complement half (negsuc n) = half * 2 - suc n

-- whether the bits hold a signed number: it is at least -half and less than half
unfoldable pub holds : ℕ → ℤ → Bool
holds half z = ltb (mag z) half
