-- The payload of an uplink, by the tests of its body. Assumes nothing.
use mathlib.Core.Path.{◌≡◌, refl, sym, ap, subst}
use mathlib.Core.Bool.{Bool, true, false, cond}
use mathlib.Core.List.{List, [], ◌∷◌}
use Prim.Native.Nat.{ℕ}
use native.Mathlib.Omega.{arith}
use borrow.Author.Tests.{ne_eqb}
use lib.Dec.{eqb}
use lib.ListN.{length, get_or, drop}
use Rattle.field_format.specs.Format.{Format, value_in}
use Rattle.ucp_answers.specs.Refusals.{refusal_by, refusal_of, reads}
use Rattle.ucp_messages.specs.declared.Kind.{Kind}
use Rattle.ucp_messages.specs.declared.Kind.TheVariants.{Uplink}
use Rattle.ucp_messages.specs.declared.Message.{Message}
use Rattle.ucp_messages.specs.Kinds.{NamedBy, Carried, kind_of, kind_in}
use Rattle.ucp_messages.specs.Messages.{refused, means, carried_payload, payload_by, answer_as, message_due}
use Rattle.ucp_messages.proofs.Formats.{LawfulFormat, Lawful, formatted, uplink, unknown, lawful}
use Rattle.ucp_messages.proofs.BodyKind.{kind_named}

-- ---- a body
-- one of another kind carries none, nor does an uplink that is refused
module _ (body : List ℕ) where
  unless : (refusal : ℕ) (m : Message) → payload_by (means m) body ≡ [] → payload_by (cond (eqb refusal 0) (means m) (refused refusal)) body ≡ []
  unless refusal m e = go (eqb refusal 0)
    where
      go : (t : Bool) → payload_by (cond t (means m) (refused refusal)) body ≡ []
      go true = e
      go false = refl

  by_format : {A : Type 0} (k : Kind) (f : Format A) (g : A → Message) → LawfulFormat k f g → payload_by (answer_as k body) body ≡ []
  unfolding reads
  by_format k f g l =
      rw (l.answer_is body) (unless (refusal_of f body) (g (value_in f body)) (ap (λ (c : Carried). carried_payload c body) (l.carried (value_in f body))))

  by_kind : {k : Kind} → Lawful k → (k ≡ Uplink → length body ≡ 436 → ⊥) → payload_by (answer_as k body) body ≡ []
  unfolding answer_as refusal_by
  by_kind {k} (formatted f g l) h = by_format k f g l
  by_kind uplink h = rw (ne_eqb (length body) 436 (h refl))
  by_kind unknown h = refl

  no_payload : (kind_in body ≡ Uplink → length body ≡ 436 → ⊥) → payload_by (message_due body) body ≡ []
  no_payload h = by_kind (lawful (kind_in body)) h

pub other_length : (body : List ℕ) → (length body ≡ 436 → ⊥) → [] ≡ payload_by (message_due body) body
other_length body n = sym (no_payload body (λ k. n))

pub other_first : (body : List ℕ) → (get_or body 0 0 ≡ 7 → ⊥) → [] ≡ payload_by (message_due body) body
other_first [] h = sym (no_payload [] (λ k n. omega arith))
other_first (x ∷ xs) h = sym (no_payload (x ∷ xs) (λ k n. h (subst (NamedBy x) k (kind_named x))))

pub an_uplink : (body : List ℕ) → length body ≡ 436 → get_or body 0 0 ≡ 7 → drop 1 body ≡ payload_by (message_due body) body
unfolding answer_as kind_of refusal_by
an_uplink [] n e = absurd (omega arith)
an_uplink (x ∷ xs) n e = rw (e, n)
