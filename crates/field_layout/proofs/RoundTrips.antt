-- Round trips over any layout: the octets of fields carry those fields, and the fields of octets make those octets.
-- Assumes nothing.
use mathlib.Core.Path.{◌≡◌, refl, sym, ap, ap₂, ◌∙◌, subst}
use mathlib.Core.List.{List, [], ◌∷◌, ◌++◌, reverse, reverse-reverse}
use Prim.Native.Nat.{ℕ, zero, suc, ◌+◌, ◌*◌, ◌/◌, ◌^◌, ◌<◌}
use native.Mathlib.Omega.{arith}
use lib.ListN.{length, take, drop, length-drop, length-append, length-replicate, take-append-drop}
use lib.Seq.{take_at, drop_at, length-take-le, get_or-drop}
use Rattle.crc_polynomial.specs.Polynomial.{Octets}
use Rattle.field_layout.specs.Layout.{total, joined, cut_by_widths, Within, Run, high, low, eights, run_size, widths, run_fields, run_octets, layout_size, layout_widths, layout_fields, layout_octets, Whole}
use Rattle.field_layout.proofs.Digits.{joined_lt, cut_joined, joined_cut, cut_within, length_within, octets_within, within_reversed, total_eights}

abbrev WholeRun : Run → Type 0
WholeRun (high ws) = total ws ≡ total ws / 8 * 8
WholeRun (low n) = Unit {0}

-- fields of whole octets make a number of as many bits as the octets
whole_lt : (ws vs : List ℕ) → total ws ≡ total ws / 8 * 8 → Within ws vs → joined ws vs < 2 ^ total (eights (total ws / 8))
whole_lt ws vs e h = subst (λ (k : ℕ). joined ws vs < 2 ^ k) (e ∙ sym (total_eights (total ws / 8))) (joined_lt ws vs h)

-- and octets a number of as many bits as the fields
octets_lt : (ws xs : List ℕ) → total ws ≡ total ws / 8 * 8 → Within (eights (total ws / 8)) xs
    → joined (eights (total ws / 8)) xs < 2 ^ total ws
octets_lt ws xs e h =
    subst (λ (k : ℕ). joined (eights (total ws / 8)) xs < 2 ^ k) (total_eights (total ws / 8) ∙ sym e)
    (joined_lt (eights (total ws / 8)) xs h)

-- ---- one run
run_octets_within : (r : Run) (vs : List ℕ) → WholeRun r → Within (widths r) vs → Within (eights (run_size r)) (run_octets r vs)
run_octets_within (high ws) vs e h = cut_within (eights (total ws / 8)) (joined ws vs) (whole_lt ws vs e h)
run_octets_within (low n) (v ∷ (u ∷ us)) e h = absurd h.1
run_octets_within (low n) (v ∷ []) e h =
    within_reversed n (cut_by_widths (eights n) v)
    (cut_within (eights n) v (subst (λ (k : ℕ). v < 2 ^ k) (sym (total_eights n)) h.0))
run_octets_within (low n) [] e h = elim h [ ]

run_fields_within : (r : Run) (xs : List ℕ) → WholeRun r → Within (eights (run_size r)) xs → Within (widths r) (run_fields r xs)
run_fields_within (high ws) xs e h = cut_within ws (joined (eights (total ws / 8)) xs) (octets_lt ws xs e h)
run_fields_within (low n) xs e h = (
  subst (λ (k : ℕ). joined (eights n) (reverse xs) < 2 ^ k) (total_eights n)
      (joined_lt (eights n) (reverse xs) (within_reversed n xs h)),
  tt,
)

run_fields_octets : (r : Run) (vs : List ℕ) → WholeRun r → Within (widths r) vs → run_fields r (run_octets r vs) ≡ vs
run_fields_octets (high ws) vs e h =
    ap (cut_by_widths ws) (joined_cut (eights (total ws / 8)) (joined ws vs) (whole_lt ws vs e h)) ∙ cut_joined ws vs h
run_fields_octets (low n) (v ∷ (u ∷ us)) e h = absurd h.1
run_fields_octets (low n) (v ∷ []) e h =
    ap (λ (l : List ℕ). joined (eights n) l ∷ []) (reverse-reverse (cut_by_widths (eights n) v))
    ∙ ap (λ (k : ℕ). k ∷ []) (joined_cut (eights n) v (subst (λ (k : ℕ). v < 2 ^ k) (sym (total_eights n)) h.0))
run_fields_octets (low n) [] e h = elim h [ ]

run_octets_fields : (r : Run) (xs : List ℕ) → WholeRun r → Within (eights (run_size r)) xs → run_octets r (run_fields r xs) ≡ xs
run_octets_fields (high ws) xs e h =
    ap (cut_by_widths (eights (total ws / 8))) (joined_cut ws (joined (eights (total ws / 8)) xs) (octets_lt ws xs e h))
    ∙ cut_joined (eights (total ws / 8)) xs h
run_octets_fields (low n) xs e h =
    ap reverse (cut_joined (eights n) (reverse xs) (within_reversed n xs h)) ∙ reverse-reverse xs

-- ---- a layout: its first run, and the others
first_whole : (r : Run) (rs : List Run) → Whole (r ∷ rs) → WholeRun r
first_whole (high ws) rs h = h.0
first_whole (low n) rs h = tt

others_whole : (r : Run) (rs : List Run) → Whole (r ∷ rs) → Whole rs
others_whole (high ws) rs h = h.1
others_whole (low n) rs h = h

first_within : (ws us vs : List ℕ) → Within (ws ++ us) vs → Within ws (take (length ws) vs)
first_within [] us vs h = tt
first_within (w ∷ ws) us (v ∷ vs) h = (h.0, first_within ws us vs h.1)
first_within (w ∷ ws) us [] h = elim h [ ]

others_within : (ws us vs : List ℕ) → Within (ws ++ us) vs → Within us (drop (length ws) vs)
others_within [] us vs h = h
others_within (w ∷ ws) us (v ∷ vs) h = others_within ws us vs h.1
others_within (w ∷ ws) us [] h = elim h [ ]

both_within : (ws us vs ys : List ℕ) → Within ws vs → Within us ys → Within (ws ++ us) (vs ++ ys)
both_within [] us [] ys h k = k
both_within (w ∷ ws) us (v ∷ vs) ys h k = (h.0, both_within ws us vs ys h.1 k)
both_within [] us (v ∷ vs) ys h k = elim h [ ]
both_within (w ∷ ws) us [] ys h k = elim h [ ]

-- octets have the length that their widths say
length_eights : (n : ℕ) (xs : List ℕ) → Within (eights n) xs → length xs ≡ n
length_eights n xs h = length_within (eights n) xs h ∙ length-replicate n 8

-- the octets of fields carry those fields
pub fields_octets : (l : List Run) (vs : List ℕ) → Whole l → Within (layout_widths l) vs → layout_fields l (layout_octets l vs) ≡ vs
fields_octets [] [] e h = refl
fields_octets (r ∷ rs) vs e h =
    let us = take (length (widths r)) vs in
    let ys = drop (length (widths r)) vs in
    let first = first_within (widths r) (layout_widths rs) vs h in
    let n = length_eights (run_size r) (run_octets r us) (run_octets_within r us (first_whole r rs e) first) in
    ap₂ (λ (a b : List ℕ). run_fields r a ++ layout_fields rs b)
    (take_at (run_octets r us) (layout_octets rs ys) (run_size r) n) (drop_at (run_octets r us) (layout_octets rs ys) (run_size r) n)
    ∙ ap₂ ◌++◌ (run_fields_octets r us (first_whole r rs e) first)
    (fields_octets rs ys (others_whole r rs e) (others_within (widths r) (layout_widths rs) vs h))
    ∙ take-append-drop (length (widths r)) vs
fields_octets [] (_ ∷ _) e h = elim h [ ]

-- there are as many octets as the layout says
pub octets_size : (l : List Run) (vs : List ℕ) → Whole l → Within (layout_widths l) vs → length (layout_octets l vs) ≡ layout_size l
octets_size [] vs e h = refl
octets_size (r ∷ rs) vs e h =
    let us = take (length (widths r)) vs in
    let ys = drop (length (widths r)) vs in
    length-append (run_octets r us) (layout_octets rs ys)
    ∙ ap₂ ◌+◌ (length_eights (run_size r) (run_octets r us)
    (run_octets_within r us (first_whole r rs e) (first_within (widths r) (layout_widths rs) vs h)))
    (octets_size rs ys (others_whole r rs e) (others_within (widths r) (layout_widths rs) vs h))

octet_of_take : (n : ℕ) (xs : List ℕ) → Octets xs → Octets (take n xs)
octet_of_take zero xs h i = omega arith
octet_of_take (suc n) [] h i = h i
octet_of_take (suc n) (x ∷ xs) h zero = h 0
octet_of_take (suc n) (x ∷ xs) h (suc i) = octet_of_take n xs (λ j. h (suc j)) i

-- ---- octets of the layout's size: the first run's, and the others
module _ (r : Run) (rs : List Run) (xs : List ℕ) (h : Octets xs) (n : length xs ≡ layout_size (r ∷ rs)) where
  first_octets : Within (eights (run_size r)) (take (run_size r) xs)
  first_octets =
      octets_within (run_size r) (take (run_size r) xs) (octet_of_take (run_size r) xs h) (length-take-le (run_size r) xs (omega arith))

  others_octets : Octets (drop (run_size r) xs)
  others_octets i = rw (get_or-drop (run_size r) xs i 0) (h (run_size r + i))

  others_size : length (drop (run_size r) xs) ≡ layout_size rs
  others_size = simp length-drop (omega arith)

-- the fields of octets are within their widths
pub fields_within : (l : List Run) (xs : List ℕ) → Whole l → Octets xs → length xs ≡ layout_size l → Within (layout_widths l) (layout_fields l xs)
fields_within [] xs e h n = tt
fields_within (r ∷ rs) xs e h n =
    both_within (widths r) (layout_widths rs) _ _
    (run_fields_within r (take (run_size r) xs) (first_whole r rs e) (first_octets r rs xs h n))
    (fields_within rs (drop (run_size r) xs) (others_whole r rs e) (others_octets r rs xs h n) (others_size r rs xs h n))

-- and make those octets
pub octets_fields : (l : List Run) (xs : List ℕ) → Whole l → Octets xs → length xs ≡ layout_size l → layout_octets l (layout_fields l xs) ≡ xs
octets_fields [] [] e h n = refl
octets_fields [] (x ∷ xs) e h n = absurd (omega arith)
octets_fields (r ∷ rs) xs e h n =
    let us = run_fields r (take (run_size r) xs) in
    let ys = layout_fields rs (drop (run_size r) xs) in
    let first = first_octets r rs xs h n in
    let k = length_within (widths r) us (run_fields_within r (take (run_size r) xs) (first_whole r rs e) first) in
    ap₂ (λ (a b : List ℕ). run_octets r a ++ layout_octets rs b) (take_at us ys (length (widths r)) k) (drop_at us ys (length (widths r)) k)
    ∙ ap₂ ◌++◌ (run_octets_fields r (take (run_size r) xs) (first_whole r rs e) first)
    (octets_fields rs (drop (run_size r) xs) (others_whole r rs e) (others_octets r rs xs h n) (others_size r rs xs h n))
    ∙ take-append-drop (run_size r) xs
