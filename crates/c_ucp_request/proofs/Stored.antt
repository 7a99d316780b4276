-- The struct's octets from a body's, and the body's from the struct's. Assumes nothing.
use mathlib.Core.Path.{◌≡◌, refl, sym, ap, ◌∙◌}
use mathlib.Core.Bool.{true}
use mathlib.Core.List.{List, [], ◌∷◌, ◌++◌}
use Prim.Native.Nat.{ℕ, ◌≤◌}
use lib.ListN.{get_or, length, drop}
use lib.Seq.{sets, sets-eq}
use Rattle.field_layout.proofs.Elements.{by_elements}
use Rattle.field_format.specs.Format.{value_in, body_of, fits}
use Rattle.ucp_messages.specs.declared.Request.{Request}
use Rattle.ucp_messages.specs.Request44.{request_format}
use Rattle.c_lent.specs.Structs.{stored, held}
use Rattle.c_ucp_request.specs.Struct.{request_struct}

-- the struct's octets, from a body's
pub body_stored : (body : List ℕ) → length body ≡ 3
    → (get_or body 2 0 ∷ []) ≡ stored request_struct (value_in request_format body)
unfolding stored value_in
body_stored body n =
    ap (λ (b : List ℕ). stored request_struct (value_in request_format b)) (sym (by_elements 3 body n))

pub body_length : (q : Request) → length (body_of request_format q) ≡ 3
unfolding body_of
body_length q = refl

pub always_fits : (q : Request) → fits request_format q ≡ true
unfolding fits
always_fits q = refl

-- the body, by the struct's octets
abbrev whole : List ℕ → List ℕ
whole m = 44 ∷ 2 ∷ get_or m 0 0 ∷ []

module _ (m : List ℕ) (n : length m ≡ 1) where
  body_of_lem : body_of request_format (held request_struct m) ≡ whole m
  unfolding body_of held
  body_of_lem =
      ap (λ (xs : List ℕ). body_of request_format (held request_struct xs)) (by_elements 1 m n)

  pub body_put : (output : List ℕ) → 3 ≤ length output → sets output 0 (whole m) ≡ body_of request_format (held request_struct m) ++ drop 3 output
  body_put output room = sets-eq (whole m) output 0 room ∙ ap (λ (body : List ℕ). body ++ drop 3 output) (sym body_of_lem)
