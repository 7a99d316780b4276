-- The struct's octets from a body's, and the body's from the struct's. Assumes nothing.
use mathlib.Core.Path.{◌≡◌, refl, sym, ap, ◌∙◌}
use mathlib.Core.Bool.{true, ◌&&◌}
use mathlib.Core.List.{List, [], ◌∷◌, ◌++◌}
use Prim.Native.Nat.{ℕ, zero, suc, ◌+◌, ◌*◌, ◌/◌, ◌%◌, ◌<◌, ◌≤◌}
use native.Mathlib.Omega.{arith}
use lib.Dec.{ltb}
use lib.ListN.{get_or, length, drop}
use lib.Seq.{sets, sets-eq}
use Rattle.crc_polynomial.specs.Polynomial.{Octets}
use Rattle.field_layout.specs.Layout.{low, layout_octets, text_octets, text_at}
use Rattle.field_layout.specs.Steps.{little32}
use Rattle.field_layout.proofs.RoundTrips.{octets_fields}
use Rattle.field_layout.proofs.Elements.{elements, by_elements}
use Rattle.field_codes.specs.Codes.{is_emitter, is_size_code}
use Rattle.field_texts.specs.Text.{is_spaced}
use Rattle.field_format.specs.Format.{value_in, body_of, fits}
use Rattle.field_format.proofs.ByOctets.{by_octets}
use Rattle.field_format.proofs.Formats.{fitting, bound}
use Rattle.ucp_messages.specs.declared.Initialization.{Initialization}
use Rattle.ucp_messages.specs.Initialization117.{initialization_format}
use Rattle.ucp_messages.proofs.Formats.{initialization_right}
use Rattle.c_lent.specs.Structs.{stored, held}
use Rattle.c_ucp_initialization.specs.Struct.{initialization_struct}
use Rattle.c_ucp_initialization.specs.Steps.{first_octets, SmallFields}

octets_3 : {a b c : ℕ} → a < 256 → b < 256 → c < 256 → Octets (a ∷ b ∷ c ∷ [])
octets_3 la lb lc zero = la
octets_3 la lb lc (suc zero) = lb
octets_3 la lb lc (suc (suc zero)) = lc
octets_3 la lb lc (suc (suc (suc n))) = omega arith

octets_4 : {a b c d : ℕ} → a < 256 → b < 256 → c < 256 → d < 256 → Octets (a ∷ b ∷ c ∷ d ∷ [])
octets_4 la lb lc ld zero = la
octets_4 la lb lc ld (suc n) = octets_3 lb lc ld n

-- three octets as a number, in four octets and in three
module _ (a b c : ℕ) (la : a < 256) (lb : b < 256) (lc : c < 256) where
  in_four : (a ∷ b ∷ c ∷ 0 ∷ []) ≡ layout_octets (low 4 ∷ []) ((c * 65536 + (b * 256 + a)) ∷ [])
  in_four =
      let e : 0 * 16777216 + (c * 65536 + (b * 256 + a)) ≡ c * 65536 + (b * 256 + a) = omega arith in
      sym (octets_fields (low 4 ∷ []) (a ∷ b ∷ c ∷ 0 ∷ []) tt (octets_4 la lb lc (omega arith)) refl)
      ∙ ap (λ (v : ℕ). layout_octets (low 4 ∷ []) (v ∷ [])) e

  in_three : {n : ℕ} → n ≡ c * 65536 + (b * 256 + a) → (a ∷ b ∷ c ∷ []) ≡ layout_octets (low 3 ∷ []) (n ∷ [])
  in_three e = rw e (sym (octets_fields (low 3 ∷ []) (a ∷ b ∷ c ∷ []) tt (octets_3 la lb lc) refl))

-- the struct's octets, from a body's, with zeros for the callsign
abbrev pub before_callsign : List ℕ → List ℕ
before_callsign body =
    get_or body 3 0 ∷ 0 ∷ 0 ∷ 0 ∷ get_or body 4 0 ∷ get_or body 5 0 ∷ get_or body 6 0 ∷ 0 ∷ get_or body 7 0 ∷ 0 ∷ 0 ∷ 0 ∷ 0 ∷ 0 ∷ 0 ∷ 0 ∷ 0
    ∷ get_or body 16 0 ∷ get_or body 17 0 ∷ get_or body 18 0 / 32 ∷ get_or body 18 0 % 32 ∷ 0 ∷ 0 ∷ 0 ∷ []

pub body_stored : (body : List ℕ) → Octets body → length body ≡ 19
    → sets (before_callsign body) 9 (elements 8 8 body) ≡ stored initialization_struct (value_in initialization_format body)
unfolding stored value_in
body_stored body is n =
    (λ i. get_or body 3 0
    ∷ 0
    ∷ 0
    ∷ 0
    ∷ in_four (get_or body 4 0) (get_or body 5 0) (get_or body 6 0) (is 4) (is 5) (is 6) i
    ++ (get_or body 7 0 ∷ elements 8 8 body)
    ++ (get_or body 16 0 ∷ get_or body 17 0 ∷ get_or body 18 0 / 32 ∷ get_or body 18 0 % 32 ∷ 0 ∷ 0 ∷ 0 ∷ []))
    ∙ ap (λ (b : List ℕ). stored initialization_struct (value_in initialization_format b)) (sym (by_elements 19 body n))

-- the ranges of a body's fields, by its octets
pub in_range : (body : List ℕ) → length body ≡ 19
    → (is_emitter (get_or body 7 0) && is_spaced (text_octets (text_at body 8)) && is_size_code (get_or body 17 0))
    ≡ initialization_format.ranges (value_in initialization_format body)
unfolding value_in
in_range body n = ap initialization_format.ranges (by_octets initialization_format 19 body n)

pub body_length : (a : Initialization) → length (body_of initialization_format a) ≡ 19
unfolding body_of
body_length a = refl

-- no fourth octet
three_of_four : (a b c d : ℕ) → d * 16777216 + (c * 65536 + (b * 256 + a)) < 16777216 → d * 16777216 + (c * 65536 + (b * 256 + a)) ≡ c * 65536 + (b * 256 + a)
three_of_four a b c d h = omega arith

-- the body, by the struct's octets
abbrev whole : List ℕ → List ℕ
whole m = first_octets m ++ (elements 8 9 m ++ (get_or m 17 0 ∷ get_or m 18 0 ∷ (get_or m 19 0 * 32 + get_or m 20 0) ∷ []))

module _ (m : List ℕ) (n : length m ≡ 24) where
  pub held_range : (is_emitter (get_or m 8 0)
      && is_spaced (text_octets (text_at m 9))
      && is_size_code (get_or m 18 0)
      && ltb (little32 m 4) 16777216
      && ltb (get_or m 19 0) 8
      && ltb (get_or m 20 0) 32)
      ≡ fits initialization_format (held initialization_struct m)
  unfolding fits held
  held_range = ap (λ (xs : List ℕ). fits initialization_format (held initialization_struct xs)) (sym (by_elements 24 m n))

  pub small : fits initialization_format (held initialization_struct m) ≡ true → SmallFields m
  unfolding held
  small h =
      let a = held initialization_struct (elements 24 0 m) in
      let g = ap (λ (xs : List ℕ). fits initialization_format (held initialization_struct xs)) (sym (by_elements 24 m n)) ∙ h in
      let at = bound initialization_format initialization_right a (fitting initialization_format initialization_right a g) in
      record { address = at 1; lateral = at 6; longitudinal = at 7 }

  module _ (is : Octets m) (s : SmallFields m) where
    body_of_lem : body_of initialization_format (held initialization_struct m) ≡ whole m
    unfolding body_of held
    body_of_lem =
        ap (λ (xs : List ℕ). body_of initialization_format (held initialization_struct xs)) (by_elements 24 m n)
        ∙ (λ i. 117
        ∷ 65
        ∷ 1
        ∷ get_or m 0 0
        ∷ sym (in_three (get_or m 4 0) (get_or m 5 0) (get_or m 6 0) (is 4) (is 5) (is 6) (three_of_four (get_or m 4 0) (get_or m 5 0) (get_or m 6 0) (get_or m 7 0) s.address)) i
        ++ (get_or m 8 0 ∷ elements 8 9 m ++ (get_or m 17 0 ∷ get_or m 18 0 ∷ (get_or m 19 0 * 32 + get_or m 20 0) ∷ [])))

    pub body_put : (output : List ℕ) {after : List ℕ} → 19 ≤ length output → after ≡ sets output 0 (whole m)
        → after ≡ body_of initialization_format (held initialization_struct m) ++ drop 19 output
    body_put output room put =
        put ∙ sets-eq (whole m) output 0 room ∙ ap (λ (body : List ℕ). body ++ drop 19 output) (sym body_of_lem)
