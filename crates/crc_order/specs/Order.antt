-- The order of x modulo x^16 + x^12 + x^5 + 1, which says how far apart two wrong bits may stand and still be seen.
-- Assumes nothing.
use Rattle.std.specs.Prelude.{◌≡◌, false, ℕ, ◌<◌, replicate}
use Rattle.crc_polynomial.specs.Polynomial.{divided}

-- the remainder of x^k: 1, followed by k coefficients that are 0
abbrev pub power : ℕ → ℕ
power k = divided 1 (replicate k false)

abbrev pub order : ℕ
order = 32767

-- x^order leaves 1, and no lower power above x^0 does
pub record IsOrder : Type 0 where
  pub returns : power order ≡ 1
  pub first : (k : ℕ) → 0 < k → k < order → power k ≡ 1 → ⊥
