-- A part of a list, element by element; octets of a part. Assumes nothing.
use mathlib.Core.Path.{◌≡◌, refl, sym, ap, ◌∙◌, subst}
use mathlib.Core.List.{List, ◌∷◌}
use Prim.Native.Nat.{ℕ, zero, suc, ◌+◌, ◌≤◌}
use native.Mathlib.Omega.{arith}
use lib.ListN.{length, get_or, take, drop, length-drop}
use lib.Seq.{drop-cons, length-take-le}
use Rattle.crc_polynomial.specs.Polynomial.{Octets}
use Rattle.field_layout.proofs.Elements.{elements}
use Rattle.mavlink_frame.specs.Reader.{payload_at}

pub part : (n i : ℕ) (xs : List ℕ) → i + n ≤ length xs → take n (drop i xs) ≡ elements n i xs
part zero i xs h = refl
part (suc n) i xs h =
    ap (take (suc n)) (drop-cons xs i 0 (omega arith)) ∙ ap (λ (l : List ℕ). get_or xs i 0 ∷ l) (part n (suc i) xs (omega arith))

elements_octets : (n i : ℕ) (xs : List ℕ) → Octets xs → Octets (elements n i xs)
elements_octets zero i xs h k = omega arith
elements_octets (suc n) i xs h zero = h i
elements_octets (suc n) i xs h (suc k) = elements_octets n (suc i) xs h k

pub part_octets : (n i : ℕ) (xs : List ℕ) → i + n ≤ length xs → Octets xs → Octets (take n (drop i xs))
part_octets n i xs h is = subst Octets (sym (part n i xs h)) (elements_octets n i xs is)

-- the payload of a frame that is there
pub payload_length : (n : ℕ) (s : List ℕ) → n + 8 ≤ length s → length (payload_at n s) ≡ n
payload_length n s h = length-take-le n (drop 6 s) (omega (arith, length-drop 6 s))
