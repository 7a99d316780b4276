-- The struct's octets from a body's, and the body's from the struct's. Assumes nothing.
use mathlib.Core.Path.{◌≡◌, refl, sym, ap, ◌∙◌}
use mathlib.Core.Bool.{true}
use mathlib.Core.List.{List, [], ◌∷◌, ◌++◌}
use Prim.Native.Nat.{ℕ, ◌/◌, ◌%◌, ◌≤◌}
use lib.ListN.{get_or, length, drop}
use lib.Seq.{sets, sets-eq}
use Rattle.crc_polynomial.specs.Polynomial.{Octets}
use Rattle.c_lent.specs.Steps.{two_of}
use Rattle.c_lent.proofs.Octets.{little_two, big_two, signed_two}
use Rattle.field_layout.proofs.Elements.{by_elements}
use Rattle.field_format.specs.Format.{value_in, body_of, fits}
use Rattle.ucp_messages.specs.declared.GeometricAltitude.{GeometricAltitude}
use Rattle.ucp_messages.specs.GeometricAltitude11.{geometric_format}
use Rattle.c_lent.specs.Structs.{stored, held}
use Rattle.c_ucp_geometric_altitude.specs.Struct.{geometric_struct}

-- the struct's octets, from a body's
pub body_stored : (body : List ℕ) → Octets body → length body ≡ 5
    → (get_or body 2 0 ∷ get_or body 1 0 ∷ get_or body 4 0 ∷ get_or body 3 0 ∷ []) ≡ stored geometric_struct (value_in geometric_format body)
unfolding stored value_in
body_stored body is n =
    (λ i. sym (ap two_of (signed_two (get_or body 2 0) (get_or body 1 0) (is 2) (is 1)) ∙ little_two (get_or body 2 0) (get_or body 1 0) (is 2)) i
    ++ sym (little_two (get_or body 4 0) (get_or body 3 0) (is 4)) i)
    ∙ ap (λ (b : List ℕ). stored geometric_struct (value_in geometric_format b)) (sym (by_elements 5 body n))

pub body_length : (g : GeometricAltitude) → length (body_of geometric_format g) ≡ 5
unfolding body_of
body_length g = refl

pub always_fits : (g : GeometricAltitude) → fits geometric_format g ≡ true
unfolding fits
always_fits g = refl

-- the body, by the struct's octets
abbrev whole : List ℕ → List ℕ
whole m = 11 ∷ get_or m 1 0 ∷ get_or m 0 0 ∷ get_or m 3 0 ∷ get_or m 2 0 ∷ []

module _ (m : List ℕ) (n : length m ≡ 4) (is : Octets m) where
  body_of_lem : body_of geometric_format (held geometric_struct m) ≡ whole m
  unfolding body_of held
  body_of_lem =
      ap (λ (xs : List ℕ). body_of geometric_format (held geometric_struct xs)) (by_elements 4 m n)
      ∙ (λ i. 11
      ∷ (ap (λ (n : ℕ). n / 256 ∷ n % 256 ∷ []) (signed_two (get_or m 0 0) (get_or m 1 0) (is 0) (is 1)) ∙ big_two (get_or m 0 0) (get_or m 1 0) (is 0)) i
      ++ big_two (get_or m 2 0) (get_or m 3 0) (is 2) i)

  pub body_put : (output : List ℕ) → 5 ≤ length output → sets output 0 (whole m) ≡ body_of geometric_format (held geometric_struct m) ++ drop 5 output
  body_put output room = sets-eq (whole m) output 0 room ∙ ap (λ (body : List ℕ). body ++ drop 5 output) (sym body_of_lem)
