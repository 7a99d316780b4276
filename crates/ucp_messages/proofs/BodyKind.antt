-- A kind by its ID, and what a body means by it. Assumes nothing.
use mathlib.Core.Path.{◌≡◌, refl, sym, ap, subst, ◌∙◌}
use mathlib.Core.Bool.{Bool, true, false, cond}
use mathlib.Core.List.{List, [], ◌∷◌}
use mathlib.Core.Logic.{◌⊎◌, inl, inr}
use Prim.Native.Nat.{ℕ, ◌<◌}
use native.Mathlib.Omega.{arith}
use borrow.Author.Tests.{eqb-true, eqb-false, ne_eqb}
use lib.Dec.{eqb}
use lib.ListN.{length, get_or, drop}
use Rattle.field_format.specs.Format.{Format, HasId, stand_at, body_size, value_in}
use Rattle.ucp_answers.specs.Refusals.{reads}
use Rattle.ucp_answers.proofs.Answers as answers
use Rattle.ucp_messages.specs.declared.Kind.{Kind}
use Rattle.ucp_messages.specs.declared.Kind.TheVariants.{Unknown}
use Rattle.ucp_messages.specs.Kinds.{KindId, its, none, kind_row, known_kinds, listed, ids_of, AndNoneOf, NoneOf, HasKindId, NamedBy, known_ids, is_kind_id, first_named, kind_of, kind_in, StartsWith}
use Rattle.ucp_messages.specs.declared.Message.{Message}
use Rattle.ucp_messages.specs.Messages.{ReaderAnswer, refused, means, answer_as, message_due}
use Rattle.ucp_messages.proofs.Formats.{LawfulFormat, Lawful, formatted, uplink, unknown, lawful}

-- ---- a number that is none of a list's, one by one
abbrev pub Others : List ℕ → ℕ → Type 0
Others [] n = Unit {0}
Others (x ∷ xs) n = (n ≡ x → ⊥) × Others xs n

pub others : (Before : Type 0) (xs : List ℕ) (n : ℕ) → AndNoneOf Before xs n → Before × Others xs n
others Before [] n h = (h, tt)
others Before (x ∷ xs) n h = let p = others (Before × (n ≡ x → ⊥)) xs n h in (p.0.0, (p.0.1, p.1))

pub none_of : (Before : Type 0) (xs : List ℕ) (n : ℕ) → Before → Others xs n → AndNoneOf Before xs n
none_of Before [] n b h = b
none_of Before (x ∷ xs) n b h = none_of (Before × (n ≡ x → ⊥)) xs n (b, h.0) h.1

-- ---- the kind of an ID is named by it
abbrev Found : List Kind → ℕ → Type 0
Found ks n = NamedBy n (first_named ks n) ⊎ ((first_named ks n ≡ Unknown) × Others (ids_of ks) n)

found : (ks : List Kind) (n : ℕ) → Found ks n
found [] n = inr (refl, tt)
found (k ∷ ks) n = go (kind_row k).id refl (found ks n)
  where
    go : (i : KindId) → (kind_row k).id ≡ i → Found ks n
        → NamedBy n (cond (is_kind_id i n) k (first_named ks n)) ⊎ ((cond (is_kind_id i n) k (first_named ks n) ≡ Unknown) × Others (listed i (ids_of ks)) n)
    go none e rest = rest
    go (its x) e rest = by_test (eqb n x) refl rest
      where
        by_test : (t : Bool) → eqb n x ≡ t → Found ks n
            → NamedBy n (cond t k (first_named ks n)) ⊎ ((cond t k (first_named ks n) ≡ Unknown) × ((n ≡ x → ⊥) × Others (ids_of ks) n))
        by_test true h f = inl (subst (λ (i : KindId). HasKindId i n) (sym e) (eqb-true n x h))
        by_test false h (inl f) = inl f
        by_test false h (inr f) = inr (f.0, (eqb-false n x h, f.1))

pub kind_named : (n : ℕ) → NamedBy n (kind_of n)
unfolding kind_of
kind_named n = go (found known_kinds n)
  where
    go : Found known_kinds n → NamedBy n (first_named known_kinds n)
    go (inl f) = f
    go (inr f) = rw f.0 (none_of (Unit {0}) known_ids n tt f.1)

-- ---- and no other kind is
none_found : (ks : List Kind) (n : ℕ) → Others (ids_of ks) n → first_named ks n ≡ Unknown
none_found [] n h = refl
none_found (k ∷ ks) n h = go (none_found ks n) (kind_row k).id h
  where
    go : (Others (ids_of ks) n → first_named ks n ≡ Unknown) → (i : KindId) → Others (listed i (ids_of ks)) n
        → cond (is_kind_id i n) k (first_named ks n) ≡ Unknown
    go rest none h = rest h
    go rest (its x) h = rw (ne_eqb n x h.0) (rest h.1)

pub kind_is : (n : ℕ) (k : Kind) → NamedBy n k → k ≡ kind_of n
unfolding kind_of
kind_is n k h = go (lawful k) h
  where
    go : {j : Kind} → Lawful j → NamedBy n j → j ≡ kind_of n
    go (formatted f message l) i = sym l.first ∙ ap kind_of (sym (subst (λ (o : KindId). HasKindId o n) l.id_is i))
    go uplink i = rw i
    go unknown i = sym (none_found known_kinds n (others (Unit {0}) known_ids n i).1)

-- ---- a body of a kind starts with the kind's ID
pub named_in : (body : List ℕ) {k : Kind} → kind_in body ≡ k → (k ≡ Unknown) ⊎ NamedBy (get_or body 0 0) k
named_in [] e = inl (sym e)
named_in (x ∷ xs) e = inr (subst (NamedBy x) e (kind_named x))

pub starts_as : {A : Type 0} {k : Kind} {f : Format A} {message : A → Message} → LawfulFormat k f message → (body : List ℕ) → kind_in body ≡ k
    → HasId f.head body
starts_as {k = k} {f = f} l body e = l.has_id body (go (named_in body e))
  where
    go : (k ≡ Unknown) ⊎ NamedBy (get_or body 0 0) k → get_or body 0 0 ≡ get_or f.head 0 0
    go (inl u) = let i = l.id_is in let n : (kind_row k).id ≡ none = ap (λ (j : Kind). (kind_row j).id) u in let z : ◌≡◌ {A = ℕ} 0 1 = cc in absurd (omega arith)
    go (inr i) = subst (λ (o : KindId). HasKindId o (get_or body 0 0)) l.id_is i

-- ---- what a body means by its ID, and by none
module _ (k : Kind) (body : List ℕ) {answer : ReaderAnswer} where
  pub by_id : NamedBy (get_or body 0 0) k → 0 < length body → answer ≡ answer_as k body → answer ≡ message_due body
  by_id i some e = e ∙ ap (λ (j : Kind). answer_as j body) (kind_so body i some)
    where
      kind_so : (bs : List ℕ) → NamedBy (get_or bs 0 0) k → 0 < length bs → k ≡ kind_in bs
      kind_so [] i some = absurd (omega arith)
      kind_so (x ∷ xs) i some = kind_is x k i

pub no_octet : (body : List ℕ) → length body ≡ 0 → refused 10 ≡ message_due body
unfolding answer_as
no_octet [] h = refl
no_octet (x ∷ xs) h = absurd (omega arith)

pub no_kind : (body : List ℕ) → NoneOf known_ids (get_or body 0 0) → refused 10 ≡ message_due body
unfolding answer_as
no_kind [] h = refl
no_kind (x ∷ xs) h = by_id Unknown (x ∷ xs) h (omega arith) refl

-- ---- the answers to a body of a kind that has a format, by the kind's tests
module _ {A : Type 0} {k : Kind} {f : Format A} {message : A → Message} (l : LawfulFormat k f message) {body : List ℕ} (starts : StartsWith (get_or f.head 0 0) body) where
  by_format : {answer : ReaderAnswer} → answer ≡ reads f refused (λ a. means (message a)) body → answer ≡ message_due body
  by_format e = by_id k body (subst (λ (i : KindId). HasKindId i (get_or body 0 0)) (sym l.id_is) starts.first) starts.some (e ∙ sym (l.answer_is body))

  pub refused_11 : (length body ≡ body_size f → ⊥) → refused 11 ≡ message_due body
  refused_11 n = by_format (answers.refused_11 f refused (λ a. means (message a)) body n)

  pub refused_12 : length body ≡ body_size f → stand_at true 1 (drop 1 f.head) body ≡ false → refused 12 ≡ message_due body
  refused_12 n h = by_format (answers.refused_12 f refused (λ a. means (message a)) body n h)

  module _ (n : length body ≡ body_size f) (h : stand_at true 1 (drop 1 f.head) body ≡ true) {a : A} (e : a ≡ value_in f body) where
    pub refused_13 : f.ranges a ≡ false → refused 13 ≡ message_due body
    refused_13 r = by_format (answers.refused_13 f refused (λ x. means (message x)) body n h e r)

    pub accepted : f.ranges a ≡ true → means (message a) ≡ message_due body
    accepted r = by_format (answers.accepted f refused (λ x. means (message x)) body n h e r)
