-- A list from one place on, in two parts. Assumes nothing.
use mathlib.Core.Path.{◌≡◌, sym, ap₂, ◌∙◌}
use mathlib.Core.List.{List, ◌++◌}
use Prim.Native.Nat.{ℕ, ◌+◌}
use lib.ListN.{take, drop, take-append-drop}
use lib.Seq.{drop-drop}

-- k octets from i on, and then the others
pub part : (k : ℕ) (body : List ℕ) (i : ℕ) {first : List ℕ} → first ≡ take k (drop i body) → drop i body ≡ first ++ drop (i + k) body
part k body i e = sym (take-append-drop k (drop i body)) ∙ ap₂ (λ (xs ys : List ℕ). xs ++ ys) (sym e) (drop-drop k i body)
