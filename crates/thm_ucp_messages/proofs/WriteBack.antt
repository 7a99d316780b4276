-- An accepted body writes back to the same octets, by its kind's format. Assumes nothing.
use mathlib.Core.Path.{◌≡◌, refl, sym, ap, ◌∙◌, subst}
use mathlib.Core.Bool.{Bool, true, false, cond}
use mathlib.Core.List.{List, [], ◌∷◌, ◌++◌}
use mathlib.Core.Logic.{◌⊎◌, inl, inr}
use Prim.Native.Nat.{ℕ, ◌≤◌}
use native.Mathlib.Omega.{arith}
use borrow.Author.Tests.{eqb-true, eq-eqb, le-ltb}
use lib.Dec.{eqb}
use lib.ListN.{length, get_or, drop, length-drop}
use Rattle.crc_polynomial.specs.Polynomial.{Octets}
use Rattle.field_format.specs.Format.{Format, value_in}
use Rattle.output_writing.specs.Writing.{Written, wrote, writer_answer, output_after}
use Rattle.ucp_answers.specs.Writes.{body_due, WritesBody}
use Rattle.ucp_answers.specs.Refusals.{refusal_of, reads}
use Rattle.ucp_answers.proofs.RoundTrips as formats
use Rattle.ucp_messages.specs.declared.Kind.{Kind}
use Rattle.ucp_messages.specs.declared.Kind.TheVariants.{Uplink, Unknown}
use Rattle.ucp_messages.specs.declared.Message.{Message}
use Rattle.ucp_messages.specs.Uplink7.{uplink_fits}
use Rattle.ucp_messages.proofs.Formats.{LawfulFormat, Lawful, formatted, uplink, unknown, lawful, fits_as, body_as}
use Rattle.ucp_messages.proofs.BodyKind.{named_in, starts_as}
use Rattle.ucp_messages.specs.Kinds.{kind_in}
use Rattle.ucp_messages.specs.Messages.{ReaderAnswer, means, refused, means_unless_refused, payload_by, answer_as, message_due, message_fits, message_body}
use Rattle.thm_ucp_messages.specs.RoundTrips.{MessageWritesBack}

-- an uplink starts with its ID
uplink_id : (body : List ℕ) → kind_in body ≡ Uplink → get_or body 0 0 ≡ 7
uplink_id body e = go (named_in body e)
  where
    go : (Uplink ≡ Unknown) ⊎ (get_or body 0 0 ≡ 7) → get_or body 0 0 ≡ 7
    go (inl u) = let z : ◌≡◌ {A = ℕ} 0 1 = cc in absurd (omega arith)
    go (inr i) = i

-- ---- an answer that is a message
pub means_so : (n : ℕ) (x m : Message) → means_unless_refused n x ≡ means m → (n ≡ 0) × (x ≡ m)
means_so n x m = go (eqb n 0) refl
  where
    go : (t : Bool) → eqb n 0 ≡ t → cond t (means x) (refused n) ≡ means m → (n ≡ 0) × (x ≡ m)
    go true e h = (eqb-true n 0 e, cc)
    go false e h = let z : ◌≡◌ {A = ℕ} 0 1 = cc in absurd (omega arith)

-- the message writes back
abbrev Back : List ℕ → Message → Type 0
Back body m = (message_fits m (payload_by (means m) body) ≡ true) × (message_body m (payload_by (means m) body) ≡ body)

uplink_same : (body : List ℕ) → length body ≡ 436 → get_or body 0 0 ≡ 7 → 7 ∷ drop 1 body ≡ body
uplink_same [] n e = absurd (omega arith)
uplink_same (x ∷ xs) n e = ap (λ (y : ℕ). y ∷ xs) (sym e)

module _ (body : List ℕ) (m : Message) (h : Octets body) where
  -- where its kind has a format
  by_format : {A : Type 0} {k : Kind} (f : Format A) (g : A → Message) → LawfulFormat k f g → kind_in body ≡ k → answer_as k body ≡ means m → Back body m
  unfolding reads
  by_format f g l e a =
      let p = means_so (refusal_of f body) (g (value_in f body)) m (sym (l.answer_is body) ∙ a) in
      let q = formats.accepted_writes_back f l.right body h (starts_as l body e) p.0 in
      let v = value_in f body in
      subst (Back body) p.1 (fits_as l v (payload_by (means (g v)) body) ∙ q.0, body_as l v (payload_by (means (g v)) body) ∙ q.1)

  by_kind : {k : Kind} → Lawful k → kind_in body ≡ k → answer_as k body ≡ means m → Back body m
  unfolding answer_as message_fits message_body uplink_fits
  by_kind (formatted f g l) e a = by_format f g l e a
  by_kind uplink e a =
      let p = means_so _ _ m a in
      let n = eqb-true (length body) 436 (formats.none_due _ _ _ p.0).0 in
      subst (Back body) p.1
      (eq-eqb (length (drop 1 body)) 435 (length-drop 1 body ∙ omega arith), uplink_same body n (uplink_id body e))
  by_kind unknown e a = let z : ◌≡◌ {A = ℕ} 0 1 = cc in absurd (omega arith)

-- ---- calls
-- a body that fits, and has room, is written
written : {fits : Bool} {body output after : List ℕ} {w : Written} (same : List ℕ) → fits ≡ true → body ≡ same → length same ≤ length output
    → WritesBody fits body output w after → (writer_answer w ≡ wrote (length same)) × (after ≡ same ++ drop (length same) output)
unfolding body_due
written {fits} {body} {output} {after} {w} same f e room call =
    let a : writer_answer w ≡ wrote (length same) = call.answers ∙ rw (f, e, le-ltb (length output) (length same) room) in
    (a, call.leaves ∙ (λ i. output_after (e i) output (a i)))

pub accepted_writes_back : MessageWritesBack
accepted_writes_back body payload output after m r w h reading e gives room call =
    let due : message_due body ≡ means m = sym reading ∙ e in
    let back = by_kind body m h (lawful (kind_in body)) refl due in
    let same : payload ≡ payload_by (means m) body = gives ∙ ap (λ (answer : ReaderAnswer). payload_by answer body) due in
    written body (ap (message_fits m) same ∙ back.0) (ap (message_body m) same ∙ back.1) room call
