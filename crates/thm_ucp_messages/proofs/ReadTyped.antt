-- What the reader gives is a value of its type, by its kind's format. Assumes nothing.
use mathlib.Core.Path.{◌≡◌, sym, subst, ◌∙◌}
use mathlib.Core.List.{List}
use Prim.Native.Nat.{ℕ}
use native.Mathlib.Omega.{arith}
use borrow.Author.Tests.{eqb-true}
use lib.ListN.{length}
use Rattle.crc_polynomial.specs.Polynomial.{Octets}
use Rattle.field_format.specs.Format.{Format, Right, body_size, value_in, TypedAs}
use Rattle.field_format.proofs.Formats.{value_typed}
use Rattle.ucp_answers.specs.Refusals.{refusal_of, reads}
use Rattle.ucp_answers.proofs.RoundTrips.{none_due}
use Rattle.ucp_messages.specs.declared.Kind.{Kind}
use Rattle.ucp_messages.specs.declared.Message.{Message}
use Rattle.ucp_messages.specs.declared.Message.TheVariants as message
use Rattle.ucp_messages.specs.Uplink7.{uplink_refusal}
use Rattle.ucp_messages.proofs.Formats.{Lawful, formatted, uplink, unknown, lawful}
use Rattle.ucp_messages.specs.Kinds.{kind_in}
use Rattle.ucp_messages.specs.Messages.{means, refused, answer_as}
use Rattle.thm_ucp_messages.proofs.WriteBack.{means_so}
use Rattle.thm_ucp_messages.specs.Typed.{TypedCarried, MessageTyped, ReadIsTyped}

module _ (body : List ℕ) (m : Message) (h : Octets body) where
  -- where its kind has a format
  by_format : {A : Type 0} (f : Format A) → Right f → (g : A → Message) → ((a : A) → TypedAs f a → MessageTyped (g a))
      → reads f refused (λ x. means (g x)) body ≡ means m → MessageTyped m
  unfolding reads refusal_of
  by_format f ok g told a =
      let p = means_so (refusal_of f body) (g (value_in f body)) m a in
      let n = eqb-true (length body) (body_size f) (none_due _ _ _ p.0).0 in
      subst MessageTyped p.1 (told (value_in f body) (value_typed f ok body h n))

  by_kind : {k : Kind} → Lawful k → answer_as k body ≡ means m → MessageTyped m
  unfolding answer_as
  by_kind (formatted f g l) a = by_format f l.right g (λ x t. subst TypedCarried (sym (l.carried x)) t) (sym (l.answer_is body) ∙ a)
  by_kind uplink a = subst MessageTyped (means_so (uplink_refusal body) message.Uplink m a).1 tt
  by_kind unknown a = let z : ◌≡◌ {A = ℕ} 0 1 = cc in absurd (omega arith)

pub read_is_typed : ReadIsTyped
read_is_typed body m h = by_kind body m h (lawful (kind_in body))
