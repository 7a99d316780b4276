-- Numbers as a struct's fields hand them over. Assumes nothing.
use mathlib.Core.Path.{◌≡◌, refl}
use mathlib.Core.Bool.{Bool, true, false}
use mathlib.Core.List.{List}
use Prim.Native.Nat.{ℕ, ◌<◌, ◌^◌}
use lib.Dec.{eqb}
use lib.IntN.{ℤ}
use lib.Signed.{mag}
use mir.Syntax.{Width}
use mir.Val.{to_z, of_z, hbits, bool_byte}
use mir.ValLaws.{to_z-of_z}
use Rattle.text_output.specs.Clips.{Clips}

-- a signed number by its bits
pub signed : (w : Width) (z : ℤ) → mag z < 2 ^ hbits w → to_z w (of_z w z) ≡ z
signed w z h = to_z-of_z w z (record { sfits = h })

-- a truth as 0 or 1
pub truth_back : (b : Bool) → eqb (bool_byte b) 1 ≡ b
truth_back true = refl
truth_back false = refl

-- what is put, in other terms
pub put_as : {before : List ℕ} {at : ℕ} {us vs : List ℕ} {next : ℕ} {after : List ℕ}
    → Clips before at us next after → us ≡ vs → Clips before at vs next after
put_as p e = rw e at p
