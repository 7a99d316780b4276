-- What a body of a known length carries is found octet by octet. Assumes nothing.
use mathlib.Core.Path.{◌≡◌, sym, ap}
use mathlib.Core.List.{List}
use Prim.Native.Nat.{ℕ}
use lib.ListN.{length}
use Rattle.field_layout.proofs.Elements.{elements, by_elements}
use Rattle.field_format.specs.Format.{Format, value_in}

-- the value that a body carries, by the body's octets
pub by_octets : {A : Type 0} (f : Format A) (n : ℕ) (body : List ℕ) → length body ≡ n → value_in f (elements n 0 body) ≡ value_in f body
by_octets f n body e = sym (ap (value_in f) (by_elements n body e))
