-- What every format has, proved once: a value that fits is carried by its body, and a body of the kind's length behind the right
-- head is the body of its value. Assumes nothing.
use mathlib.Core.Path.{◌≡◌, refl, sym, ap, ◌∙◌, subst}
use mathlib.Core.Bool.{Bool, true}
use mathlib.Core.List.{List, [], ◌∷◌, ◌++◌, append_assoc}
use Prim.Native.Nat.{ℕ, ◌+◌, ◌*◌}
use native.Mathlib.Omega.{arith}
use lib.ListN.{length, drop, length-append, length-drop}
use lib.Seq.{drop-append_seam, get_or-drop}
use Rattle.crc_polynomial.specs.Polynomial.{Octets}
use Rattle.field_layout.specs.Layout.{Within, layout_size, layout_widths, layout_fields, layout_octets}
use Rattle.field_layout.proofs.RoundTrips.{fields_octets, octets_fields, fields_within, octets_size}
use Rattle.field_format.specs.Format.{Column, made, row_widths, row_to, row_from, widths_of, row_tested, BoundedAt, Item, high, low, text, field_columns, runs, columns, row_of, Format, Right, stand_at, HasId, body_size, value_in, body_of, fits, has_room, Fitting, TypedAs}
use Rattle.field_format.proofs.Columns.{row_before, row_bounded, bounded_at, row_within, row_back, row_again, Again}
use Rattle.field_format.proofs.Heads.{head_stands}

-- ---- the runs of a format have the widths of its columns
widths_append : (cs ds : List Column) → row_widths (cs ++ ds) ≡ row_widths cs ++ row_widths ds
widths_append [] ds = refl
widths_append (c ∷ cs) ds =
    ap (λ (ws : List ℕ). widths_of c ++ ws) (widths_append cs ds) ∙ sym (append_assoc (widths_of c) (row_widths cs) (row_widths ds))

widths_same : {A : Type 0} (is : List (Item A)) → layout_widths (runs is) ≡ row_widths (columns is)
widths_same [] = refl
widths_same (high fs ∷ is) =
    ap (λ (ws : List ℕ). row_widths (field_columns fs) ++ ws) (widths_same is) ∙ sym (widths_append (field_columns fs) (columns is))
widths_same (low n s get ∷ is) = ap (λ (ws : List ℕ). n * 8 ∷ ws) (widths_same is)
widths_same (text get ∷ is) = ap (λ (ws : List ℕ). 8 ∷ 8 ∷ 8 ∷ 8 ∷ 8 ∷ 8 ∷ 8 ∷ 8 ∷ ws) (widths_same is)

module _ {A : Type 0} (f : Format A) (ok : Right f) where
  -- ---- a value that is typed, and whose numbers have room
  module _ (a : A) (t : TypedAs f a) (w : has_room f a ≡ true) where
    numbers_within : Within (layout_widths (runs f.items)) (row_to (columns f.items) (row_of f.items a))
    numbers_within =
        subst (λ (ws : List ℕ). Within ws (row_to (columns f.items) (row_of f.items a))) (sym (widths_same f.items))
        (row_within true (columns f.items) (row_of f.items a) ok.sound t w)

    -- its body has the kind's length
    pub body_size_lem : length (body_of f a) ≡ body_size f
    unfolding body_of
    body_size_lem =
        length-append f.head _
        ∙ ap (λ (n : ℕ). length f.head + n) (octets_size (runs f.items) _ ok.whole numbers_within)

    -- and carries the value
    pub value_back : value_in f (body_of f a) ≡ a
    unfolding value_in body_of
    value_back =
        ap (λ (vs : List ℕ). made (columns f.items) f.value (row_from (columns f.items) 0 vs))
        (ap (layout_fields (runs f.items)) (drop-append_seam f.head _)
        ∙ fields_octets (runs f.items) _ ok.whole numbers_within)
        ∙ ap (made (columns f.items) f.value) (row_back true (columns f.items) (row_of f.items a) ok.sound t w)
        ∙ ok.back a

  -- ---- a value that is typed and fits
  module _ (a : A) (t : TypedAs f a) (h : fits f a ≡ true) where
    pub in_ranges : f.ranges a ≡ true
    unfolding fits
    in_ranges = row_before (f.ranges a) (columns f.items) (row_of f.items a) h

    pub room : has_room f a ≡ true
    unfolding fits
    room = subst (λ (b : Bool). row_tested b (columns f.items) (row_of f.items a) ≡ true) in_ranges h

  -- what a writer's test shows
  pub fitting : (a : A) → fits f a ≡ true → Fitting f a
  unfolding fits
  fitting a h = row_bounded (f.ranges a) (columns f.items) (row_of f.items a) ok.sound h

  pub bound : (a : A) → Fitting f a → (k : ℕ) → BoundedAt (columns f.items) (row_of f.items a) k
  bound a h k = bounded_at (columns f.items) (row_of f.items a) h k

  -- ---- a body of the kind's length
  module _ (body : List ℕ) (o : Octets body) (n : length body ≡ body_size f) where
    behind : List ℕ
    behind = drop (length f.head) body

    behind_octets : Octets behind
    unfolding behind
    behind_octets i = rw (get_or-drop (length f.head) body i 0) (o (length f.head + i))

    behind_size : length behind ≡ layout_size (runs f.items)
    unfolding behind
    behind_size = simp length-drop (omega arith)

    carried : Again (columns f.items) (layout_fields (runs f.items) behind)
    carried =
        row_again (columns f.items) (layout_fields (runs f.items) behind) ok.sound
        (subst (λ (ws : List ℕ). Within ws (layout_fields (runs f.items) behind)) (widths_same f.items)
        (fields_within (runs f.items) behind ok.whole behind_octets behind_size))

    row_same : row_of f.items (value_in f body) ≡ row_from (columns f.items) 0 (layout_fields (runs f.items) behind)
    unfolding value_in behind
    row_same = ok.again _

    -- its numbers are what their types have, and have room: only the ranges can be wrong
    pub value_typed : TypedAs f (value_in f body)
    value_typed = rw row_same carried.typed

    pub value_fits : fits f (value_in f body) ≡ f.ranges (value_in f body)
    unfolding fits
    value_fits =
        ap (row_tested (f.ranges (value_in f body)) (columns f.items)) row_same ∙ carried.fit (f.ranges (value_in f body))

    octets_same : layout_octets (runs f.items) (row_to (columns f.items) (row_of f.items (value_in f body))) ≡ behind
    octets_same =
        ap (layout_octets (runs f.items)) (ap (row_to (columns f.items)) row_same ∙ carried.same)
        ∙ octets_fields (runs f.items) behind ok.whole behind_octets behind_size

    -- behind the right head, it is the body of its value
    pub body_again : HasId f.head body → stand_at true 1 (drop 1 f.head) body ≡ true → body_of f (value_in f body) ≡ body
    unfolding body_of behind
    body_again i h =
        ap (λ (xs : List ℕ). f.head ++ xs) octets_same ∙ sym (head_stands f.head body i h (omega arith))
