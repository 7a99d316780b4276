-- Octets put one behind the other. Assumes nothing.
use mathlib.Core.Path.{◌≡◌, ap}
use mathlib.Core.List.{List, [], ◌∷◌}
use Prim.Native.Nat.{ℕ, suc, ◌+◌}
use native.Mathlib.Numerals.{add-one}
use native.Mathlib.Omega.{arith}
use lib.ListN.{set}
use lib.Seq.{sets}

pub two_put : (l : List ℕ) (at a b : ℕ) → set (set l at a) (at + 1) b ≡ sets l at (a ∷ b ∷ [])
two_put l at a b = ap (λ (n : ℕ). set (set l at a) n b) (add-one at)

pub four_put : (l : List ℕ) (at a b c d : ℕ)
    → set (set (set (set l at a) (at + 1) b) (at + 2) c) (at + 3) d ≡ sets l at (a ∷ b ∷ c ∷ d ∷ [])
four_put l at a b c d =
    let e : at + 2 ≡ suc (suc at) = omega arith in
    let f : at + 3 ≡ suc (suc (suc at)) = omega arith in
    λ i. set (set (set (set l at a) (add-one at i) b) (e i) c) (f i) d
