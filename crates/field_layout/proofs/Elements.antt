-- A list of a known length is its elements, one by one; so are the fields of a body. Assumes nothing.
use mathlib.Core.Path.{◌≡◌, sym, ap, ◌∙◌, subst}
use mathlib.Core.List.{List, [], ◌∷◌}
use Prim.Native.Nat.{ℕ, zero, suc, ◌+◌}
use native.Mathlib.Nat.{add-zero, le_of_eq}
use native.Mathlib.Omega.{arith}
use lib.ListN.{length, get_or, drop, drop_of_length-le}
use lib.Seq.{drop-cons}
use Rattle.crc_polynomial.specs.Polynomial.{Octets}
use Rattle.field_layout.specs.Layout.{Within, Run, layout_size, layout_widths, layout_fields, layout_octets, Whole, text_at}
use Rattle.field_layout.proofs.Digits.{length_within}
use Rattle.field_layout.proofs.RoundTrips.{fields_within, octets_fields}

abbrev pub elements : ℕ → ℕ → List ℕ → List ℕ
elements zero i xs = []
elements (suc n) i xs = get_or xs i 0 ∷ elements n (suc i) xs

from : (n i : ℕ) (xs : List ℕ) → length xs ≡ i + n → drop i xs ≡ elements n i xs
from zero i xs e = drop_of_length-le xs (le_of_eq (e ∙ add-zero i))
from (suc n) i xs e = drop-cons xs i 0 (omega arith) ∙ ap (λ (l : List ℕ). get_or xs i 0 ∷ l) (from n (suc i) xs (omega arith))

pub by_elements : (n : ℕ) (xs : List ℕ) → length xs ≡ n → xs ≡ elements n 0 xs
by_elements n xs e = from n 0 xs (omega arith)

-- a field of a body of a known length, by the body's octets
pub field_at : (l : List Run) (n k : ℕ) (body : List ℕ) → length body ≡ n
    → get_or (layout_fields l (elements n 0 body)) k 0 ≡ get_or (layout_fields l body) k 0
field_at l n k body e = sym (ap (λ (b : List ℕ). get_or (layout_fields l b) k 0) (by_elements n body e))

pub text_at_lem : (l : List Run) (n k : ℕ) (body : List ℕ) → length body ≡ n
    → text_at (layout_fields l (elements n 0 body)) k ≡ text_at (layout_fields l body) k
text_at_lem l n k body e = sym (ap (λ (b : List ℕ). text_at (layout_fields l b) k) (by_elements n body e))

-- ---- a body of a layout's size
module _ (l : List Run) (m : ℕ) (count : length (layout_widths l) ≡ m) (whole : Whole l) (body : List ℕ) (h : Octets body)
    (n : length body ≡ layout_size l) where
  -- its fields, one by one
  each : layout_fields l body ≡ elements m 0 (layout_fields l body)
  each = by_elements m (layout_fields l body) (length_within (layout_widths l) (layout_fields l body) (fields_within l body whole h n) ∙ count)

  -- and each is within its width
  pub bounds : Within (layout_widths l) (elements m 0 (layout_fields l body))
  bounds = subst (Within (layout_widths l)) each (fields_within l body whole h n)

  -- fields that are the same make the same octets
  pub same_octets : {vs : List ℕ} → vs ≡ elements m 0 (layout_fields l body) → layout_octets l vs ≡ body
  same_octets e = ap (layout_octets l) (e ∙ sym each) ∙ octets_fields l body whole h n
