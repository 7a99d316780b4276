-- The struct's octets from a body's, and the body's from the struct's. Assumes nothing.
use mathlib.Core.Path.{◌≡◌, refl, sym, ap, ◌∙◌}
use mathlib.Core.Bool.{true}
use mathlib.Core.List.{List, [], ◌∷◌, ◌++◌}
use Prim.Native.Nat.{ℕ, ◌≤◌}
use lib.ListN.{get_or, length, drop}
use lib.Seq.{sets, sets-eq}
use Rattle.crc_polynomial.specs.Polynomial.{Octets}
use Rattle.c_lent.proofs.Octets.{little_two, big_two}
use Rattle.field_layout.proofs.Elements.{by_elements}
use Rattle.field_format.specs.Format.{value_in, body_of, fits}
use Rattle.ucp_messages.specs.declared.Heartbeat.{Heartbeat}
use Rattle.ucp_messages.specs.Heartbeat0.{heartbeat_format}
use Rattle.c_lent.specs.Structs.{stored, held}
use Rattle.c_ucp_heartbeat.specs.Struct.{heartbeat_struct}

-- the struct's octets, from a body's
pub body_stored : (body : List ℕ) → Octets body → length body ≡ 7
    → (get_or body 1 0 ∷ get_or body 2 0 ∷ get_or body 3 0 ∷ get_or body 4 0 ∷ get_or body 6 0 ∷ get_or body 5 0 ∷ []) ≡ stored heartbeat_struct (value_in heartbeat_format body)
unfolding stored value_in
body_stored body is n =
    (λ i. get_or body 1 0
    ∷ get_or body 2 0
    ∷ sym (little_two (get_or body 3 0) (get_or body 4 0) (is 3)) i
    ++ sym (little_two (get_or body 6 0) (get_or body 5 0) (is 6)) i)
    ∙ ap (λ (b : List ℕ). stored heartbeat_struct (value_in heartbeat_format b)) (sym (by_elements 7 body n))

pub body_length : (h : Heartbeat) → length (body_of heartbeat_format h) ≡ 7
unfolding body_of
body_length h = refl

pub always_fits : (h : Heartbeat) → fits heartbeat_format h ≡ true
unfolding fits
always_fits h = refl

-- the body, by the struct's octets
abbrev whole : List ℕ → List ℕ
whole m = 0 ∷ get_or m 0 0 ∷ get_or m 1 0 ∷ get_or m 2 0 ∷ get_or m 3 0 ∷ get_or m 5 0 ∷ get_or m 4 0 ∷ []

module _ (m : List ℕ) (n : length m ≡ 6) (is : Octets m) where
  body_of_lem : body_of heartbeat_format (held heartbeat_struct m) ≡ whole m
  unfolding body_of held
  body_of_lem =
      ap (λ (xs : List ℕ). body_of heartbeat_format (held heartbeat_struct xs)) (by_elements 6 m n)
      ∙ (λ i. 0
      ∷ get_or m 0 0
      ∷ get_or m 1 0
      ∷ little_two (get_or m 2 0) (get_or m 3 0) (is 2) i
      ++ big_two (get_or m 4 0) (get_or m 5 0) (is 4) i)

  pub body_put : (output : List ℕ) → 7 ≤ length output → sets output 0 (whole m) ≡ body_of heartbeat_format (held heartbeat_struct m) ++ drop 7 output
  body_put output room = sets-eq (whole m) output 0 room ∙ ap (λ (body : List ℕ). body ++ drop 7 output) (sym body_of_lem)
