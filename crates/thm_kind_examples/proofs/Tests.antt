-- A test by which a range decides, and the fact that it stands for, both ways. Assumes nothing.
use mathlib.Core.Path.{◌≡◌, ap₂}
use mathlib.Core.Bool.{Bool, true, ◌&&◌}
use mathlib.Core.Logic.{◌↔◌}
use Prim.Native.Nat.{ℕ, ◌≤◌, ◌<◌}
use lib.Dec.{eqb, leb, ltb}
use borrow.Author.Tests.{leb-true, le-leb, ltb-true, lt-ltb, eqb-true, eq-eqb}
use Rattle.field_format.proofs.Conjunction.{both}

pub most : (n last : ℕ) → (leb n last ≡ true) ↔ (n ≤ last)
most n last = (leb-true n last, le-leb n last)

pub below : (n end : ℕ) → (ltb n end ≡ true) ↔ (n < end)
below n end = (ltb-true n end, lt-ltb n end)

pub equal : (n m : ℕ) → (eqb n m ≡ true) ↔ (n ≡ m)
equal n m = (eqb-true n m, eq-eqb n m)

pub itself : (t : Bool) → (t ≡ true) ↔ (t ≡ true)
itself t = ((λ h. h), (λ h. h))

pub also : {P Q : Type 0} (a b : Bool) → (a ≡ true) ↔ P → (b ≡ true) ↔ Q → ((a && b) ≡ true) ↔ (P × Q)
also a b p q = ((λ e. let (s, t) = both a b e in (p.0 s, q.0 t)), (λ (s, t). ap₂ ◌&&◌ (p.1 s) (q.1 t)))

-- the same facts, put another way
pub anew : {P Q R : Type 0} → P ↔ Q → (Q → R) → (R → Q) → P ↔ R
anew e there back = ((λ p. there (e.0 p)), (λ r. e.1 (back r)))
