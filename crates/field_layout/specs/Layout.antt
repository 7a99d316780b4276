-- How the fields of a message lie in its octets: a layout is a list of runs, in the document's order. Assumes nothing.
use Rattle.std.specs.Prelude.{Bool, cond, List, [], ◌∷◌, ◌++◌, reverse, ℕ, ◌+◌, ◌*◌, ◌/◌, ◌%◌, ◌^◌, ◌<◌, eqb, ◌≡◌, length, get_or, take, drop, replicate}
use Rattle.field_layout.specs.declared.Text.{Text}

-- how many bits the widths take together
abbrev pub total : List ℕ → ℕ
total [] = 0
total (w ∷ ws) = w + total ws

-- the number that fields of these widths make
abbrev pub joined : List ℕ → List ℕ → ℕ
joined [] vs = 0
joined (w ∷ ws) [] = 0
joined (w ∷ []) (v ∷ vs) = v
joined (w ∷ (u ∷ us)) (v ∷ vs) = v * 2 ^ total (u ∷ us) + joined (u ∷ us) vs

-- the fields of these widths that a number is made of
abbrev pub cut_by_widths : List ℕ → ℕ → List ℕ
cut_by_widths [] n = []
cut_by_widths (w ∷ []) n = n ∷ []
cut_by_widths (w ∷ (u ∷ us)) n = n / 2 ^ total (u ∷ us) ∷ cut_by_widths (u ∷ us) (n % 2 ^ total (u ∷ us))

-- as many values as widths, and each within its own
abbrev pub Within : List ℕ → List ℕ → Type 0
Within [] [] = Unit {0}
Within [] (v ∷ vs) = ⊥
Within (w ∷ ws) [] = ⊥
Within (w ∷ ws) (v ∷ vs) = (v < 2 ^ w) × Within ws vs

-- a field of one bit as a truth value
abbrev pub bit_of : Bool → ℕ
bit_of b = cond b 1 0

abbrev pub is_set : ℕ → Bool
is_set n = eqb n 1

-- a run of whole octets
pub data Run : Type 0 where
  -- fields of these widths in bits, most significant first
  high : List ℕ → Run
  -- one number of so many octets, least significant octet first
  low : ℕ → Run

-- a field of one octet
abbrev pub octet_run : Run
octet_run = high (8 ∷ [])

-- the widths of so many octets
abbrev pub eights : ℕ → List ℕ
eights n = replicate n 8

-- how many octets a run takes, and the widths of its fields
abbrev pub run_size : Run → ℕ
run_size (high ws) = total ws / 8
run_size (low n) = n

abbrev pub widths : Run → List ℕ
widths (high ws) = ws
widths (low n) = n * 8 ∷ []

-- the fields of a run from its octets, and its octets from the fields
abbrev pub run_fields : Run → List ℕ → List ℕ
run_fields (high ws) xs = cut_by_widths ws (joined (eights (total ws / 8)) xs)
run_fields (low n) xs = joined (eights n) (reverse xs) ∷ []

abbrev pub run_octets : Run → List ℕ → List ℕ
run_octets (high ws) vs = cut_by_widths (eights (total ws / 8)) (joined ws vs)
run_octets (low n) vs = reverse (cut_by_widths (eights n) (get_or vs 0 0))

-- ---- the same of a layout
abbrev pub layout_size : List Run → ℕ
layout_size [] = 0
layout_size (r ∷ rs) = run_size r + layout_size rs

abbrev pub layout_widths : List Run → List ℕ
layout_widths [] = []
layout_widths (r ∷ rs) = widths r ++ layout_widths rs

-- the fields, in the document's order, that a body's octets carry
abbrev pub layout_fields : List Run → List ℕ → List ℕ
layout_fields [] xs = []
layout_fields (r ∷ rs) xs = run_fields r (take (run_size r) xs) ++ layout_fields rs (drop (run_size r) xs)

-- the octets that carry the fields
abbrev pub layout_octets : List Run → List ℕ → List ℕ
layout_octets [] vs = []
layout_octets (r ∷ rs) vs = run_octets r (take (length (widths r)) vs) ++ layout_octets rs (drop (length (widths r)) vs)

-- every run fills whole octets
abbrev pub Whole : List Run → Type 0
Whole [] = Unit {0}
Whole (high ws ∷ rs) = (total ws ≡ total ws / 8 * 8) × Whole rs
Whole (low n ∷ rs) = Whole rs

-- eight runs of one octet
abbrev pub text_runs : List Run
text_runs = octet_run ∷ octet_run ∷ octet_run ∷ octet_run ∷ octet_run ∷ octet_run ∷ octet_run ∷ octet_run ∷ []

abbrev pub text_octets : Text → List ℕ
text_octets t = t.c0 ∷ t.c1 ∷ t.c2 ∷ t.c3 ∷ t.c4 ∷ t.c5 ∷ t.c6 ∷ t.c7 ∷ []

-- eight zeros, where there is no text
abbrev pub no_text : Text
no_text = record { c0 = 0; c1 = 0; c2 = 0; c3 = 0; c4 = 0; c5 = 0; c6 = 0; c7 = 0 }

-- the text from a place of a list on
abbrev pub text_at : List ℕ → ℕ → Text
text_at xs at = record {
  c0 = get_or xs at 0;
  c1 = get_or xs (at + 1) 0;
  c2 = get_or xs (at + 2) 0;
  c3 = get_or xs (at + 3) 0;
  c4 = get_or xs (at + 4) 0;
  c5 = get_or xs (at + 5) 0;
  c6 = get_or xs (at + 6) 0;
  c7 = get_or xs (at + 7) 0;
}
