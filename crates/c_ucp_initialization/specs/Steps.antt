-- What the parts of the writer do. Assumes nothing.
use Rattle.std.specs.Prelude.{List, [], ◌∷◌, ℕ, ◌<◌, get_or}
use Rattle.field_layout.specs.Steps.{little32}

-- octets 0 to 7 of the body, from the struct's
abbrev pub first_octets : List ℕ → List ℕ
first_octets m = 117 ∷ 65 ∷ 1 ∷ get_or m 0 0 ∷ get_or m 4 0 ∷ get_or m 5 0 ∷ get_or m 6 0 ∷ get_or m 8 0 ∷ []

-- what holds of a struct's octets whose fields fit a body
pub record SmallFields (m : List ℕ) : Type 0 where
  pub address : little32 m 4 < 16777216
  pub lateral : get_or m 19 0 < 8
  pub longitudinal : get_or m 20 0 < 32
