-- The ID that is due, by the tests of the code. Assumes nothing.
use mathlib.Core.Path.{◌≡◌, refl, sym, ap, ◌∙◌}
use mathlib.Core.Bool.{Bool, true, false}
use mathlib.Core.List.{List, [], ◌∷◌}
use Prim.Native.Nat.{ℕ}
use native.Mathlib.Omega.{arith}
use lib.ListN.{length, get_or}
use Rattle.ucp_messages.specs.declared.Kind.{Kind}
use Rattle.ucp_messages.specs.Kinds.{is_known, NamedBy, kind_in}
use Rattle.ucp_messages.proofs.BodyKind.{kind_is}
use Rattle.c_ucp_ids.specs.Ids.{id_due}

kind_in_lem : (body : List ℕ) (k : Kind) → (length body ≡ 0 → ⊥) → NamedBy (get_or body 0 0) k → k ≡ kind_in body
kind_in_lem [] k some i = absurd (some refl)
kind_in_lem (id ∷ rest) k some i = kind_is id k i

pub no_octet : (body : List ℕ) → length body ≡ 0 → record { refusal = 10; id = 0 } ≡ id_due body
unfolding id_due
no_octet [] h = refl
no_octet (id ∷ rest) h = absurd (omega arith)

module _ (body : List ℕ) (some : length body ≡ 0 → ⊥) (kind : Kind) (is : NamedBy (get_or body 0 0) kind) {known : Bool} (k : known ≡ is_known kind) where
  known_in : known ≡ is_known (kind_in body)
  known_in = k ∙ ap is_known (kind_in_lem body kind some is)

  pub unknown_id : known ≡ false → record { refusal = 10; id = 0 } ≡ id_due body
  unfolding id_due
  unknown_id h = rw (sym known_in ∙ h)

  pub known_id : known ≡ true → record { refusal = 0; id = get_or body 0 0 } ≡ id_due body
  unfolding id_due
  known_id h = rw (sym known_in ∙ h)
