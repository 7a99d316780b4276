-- The failure bits of a self-test status (document 001, "Status Message"): 1 TX_FAIL_1090ES, 2 RX_FAIL_1090ES, 3 TX_FAIL_UAT,
-- 4 RX_FAIL_UAT. Assumes nothing.
use Rattle.std.specs.Prelude.{cond, List, [], ◌∷◌, ℕ, ◌/◌, ◌^◌}
use Rattle.crc_polynomial.specs.Polynomial.{odd}

-- those of some bits that are set
abbrev pub set_of : List ℕ → ℕ → List ℕ
set_of [] status = []
set_of (b ∷ bs) status = cond (odd (status / 2 ^ b)) (b ∷ set_of bs status) (set_of bs status)

unfoldable pub failure_bits : ℕ → List ℕ
failure_bits = set_of (1 ∷ 2 ∷ 3 ∷ 4 ∷ [])
