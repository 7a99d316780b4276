-- What a reader's tests say of a body: its ID, its length, the octets behind the ID, the ranges. Assumes nothing.
use mathlib.Core.Path.{◌≡◌, refl, sym, ap, subst, ◌∙◌}
use mathlib.Core.Bool.{Bool, true, false, ◌&&◌}
use mathlib.Core.List.{List, [], ◌∷◌}
use mathlib.Core.Logic.{◌⊎◌, inl, inr, ◌↔◌}
use Prim.Native.Nat.{ℕ, ◌+◌, ◌≤◌, ◌<◌}
use native.Mathlib.Omega.{arith}
use borrow.Author.Tests.{eqb-true, eq-eqb}
use lib.Dec.{eqb}
use lib.ListN.{length, get_or, drop}
use Rattle.field_format.specs.Format.{Format, stand_at, body_size, value_in}
use Rattle.field_format.proofs.Conjunction.{both}
use Rattle.ucp_answers.specs.Refusals.{refusal_by, refusal_of}
use Rattle.ucp_messages.specs.Uplink7.{uplink_refusal}
use Rattle.ucp_messages.specs.declared.Kind.{Kind}
use Rattle.ucp_messages.specs.declared.Kind.TheVariants.{Uplink, Unknown}
use Rattle.ucp_messages.specs.Kinds.{kind_length, fixed_octets, known_ids, NamedBy, kind_of, kind_in}
use Rattle.ucp_messages.specs.Messages.{refusal_in}
use Rattle.ucp_messages.specs.declared.Message.{Message}
use Rattle.ucp_messages.proofs.Formats.{LawfulFormat}
use Rattle.ucp_messages.proofs.BodyKind.{Others, others, none_of, kind_named, kind_is}
use Rattle.ucp_messages.specs.Refusals.{Among, UnknownId, HasKindLength, StandFrom, HasFixedOctets, fields_in_range}

-- ---- 10: the kind is unknown where there is no octet, or an ID that no kind has
abbrev pub Is : Kind → Type 0
Is k = k ≡ Unknown → ⊥

-- every kind but the unknown one has a length
pub is : (k : Kind) → 0 < kind_length k → Is k
is k h e = let z = ap kind_length e in omega (arith, z)

pub is_lawful : {A : Type 0} {k : Kind} {f : Format A} {message : A → Message} → LawfulFormat k f message → Is k
is_lawful {k = k} l = is k (omega (arith, l.some, l.size_is))

not_among : (ids : List ℕ) (n : ℕ) → Others ids n → Among ids n → ⊥
not_among [] n h a = a
not_among (x ∷ xs) n h (inl e) = h.0 e
not_among (x ∷ xs) n h (inr a) = not_among xs n h.1 a

among_none : (ids : List ℕ) (n : ℕ) → (Among ids n → ⊥) → Others ids n
among_none [] n h = tt
among_none (x ∷ xs) n h = (λ e. h (inl e), among_none xs n (λ a. h (inr a)))

pub unknown_so : (body : List ℕ) → (kind_in body ≡ Unknown) ↔ UnknownId body
unknown_so [] = (λ e. inl refl, λ h. refl)
unknown_so (id ∷ rest) =
    ((λ e. inr (not_among known_ids id (others (Unit {0}) known_ids id (subst (NamedBy id) e (kind_named id))).1)), back)
  where
    back : UnknownId (id ∷ rest) → kind_of id ≡ Unknown
    back (inl z) = absurd (omega arith)
    back (inr h) = sym (kind_is id Unknown (none_of (Unit {0}) known_ids id tt (among_none known_ids id h)))

-- ---- 11 to 13
pub no : {A : Type 0} → false ≡ true → A
no e = let z : ◌≡◌ {A = ℕ} 0 1 = cc in absurd (omega arith)

stand_so : (before : Bool) (place : ℕ) (xs body : List ℕ)
    → (stand_at before place xs body ≡ true) ↔ ((before ≡ true) × StandFrom place xs body)
stand_so before place [] body = (λ e. (e, tt), λ h. h.0)
stand_so before place (x ∷ xs) body =
    let rest = stand_so (before && eqb (get_or body place 0) x) (place + 1) xs body in (
      (λ e.
          let two = both before (eqb (get_or body place 0) x) (rest.0 e).0 in
          (two.0, (eqb-true _ _ two.1, (rest.0 e).1))),
      λ h. rest.1 (rw (h.0, eq-eqb (get_or body place 0) x h.1.0), h.1.1),
    )

-- the three tests behind the ID, and the refusal that they make
pub record Tested (k : Kind) (body : List ℕ) (refusal : ℕ) : Type 0 where
  pub long : Bool
  pub fixed : Bool
  pub range : Bool
  pub made : refusal ≡ refusal_by long fixed range
  pub long_so : (long ≡ true) ↔ HasKindLength k body
  pub fixed_so : (fixed ≡ true) ↔ HasFixedOctets k body
  pub range_so : range ≡ fields_in_range k body

-- of a format that is the kind's
pub tested_format : {A : Type 0} (f : Format A) (k : Kind) (body : List ℕ) → body_size f ≡ kind_length k → drop 1 f.head ≡ fixed_octets k
    → f.ranges (value_in f body) ≡ fields_in_range k body → Tested k body (refusal_of f body)
unfolding refusal_of
tested_format f k body size head ranges =
    let stand = stand_so true 1 (drop 1 f.head) body in
    record {
      long = eqb (length body) (body_size f);
      fixed = stand_at true 1 (drop 1 f.head) body;
      range = f.ranges (value_in f body);
      made = refl;
      long_so = (λ h. eqb-true _ _ h ∙ size, λ h. eq-eqb _ _ (h ∙ sym size));
      fixed_so = (
        λ h. subst (λ (xs : List ℕ). StandFrom 1 xs body) head (stand.0 h).1,
        λ h. stand.1 (refl, subst (λ (xs : List ℕ). StandFrom 1 xs body) (sym head) h),
      );
      range_so = ranges;
    }

pub tested_lawful : {A : Type 0} {k : Kind} {f : Format A} {message : A → Message} → LawfulFormat k f message → (body : List ℕ)
    → Tested k body (refusal_in k body)
tested_lawful {k = k} {f = f} l body =
    rw (l.refusal_is body) (tested_format f k body l.size_is l.fixed_is (l.ranges_are body))

pub tested_uplink : (body : List ℕ) → Tested Uplink body (uplink_refusal body)
tested_uplink body =
    record {
      long = eqb (length body) 436;
      fixed = true;
      range = true;
      made = refl;
      long_so = (λ h. eqb-true _ _ h, λ h. eq-eqb _ _ h);
      fixed_so = (λ h. tt, λ h. refl);
      range_so = refl;
    }

-- what each number says of them
abbrev pub Exact : ℕ → Type 0 → Type 0 → Bool → Type 0
Exact n Long Fixed range =
    (n ≡ 10 → ⊥)
    × ((n ≡ 11) ↔ (Long → ⊥))
    × ((n ≡ 12) ↔ (Long × (Fixed → ⊥)))
    × ((n ≡ 13) ↔ (Long × Fixed × (range ≡ false)))
    × ((n ≡ 0) ↔ (Long × Fixed × (range ≡ true)))
    × ((n ≡ 0) ⊎ ((10 ≤ n) × (n ≤ 13)))

exact_by : (l x r : Bool) (Long Fixed : Type 0) → ((l ≡ true) ↔ Long) → ((x ≡ true) ↔ Fixed) → Exact (refusal_by l x r) Long Fixed r
unfolding refusal_by
exact_by false x r Long Fixed p q = (
  λ e. omega arith,
  (λ e h. no (p.1 h), λ h. refl),
  (λ e. absurd (omega arith), λ h. no (p.1 h.0)),
  (λ e. absurd (omega arith), λ h. no (p.1 h.0)),
  (λ e. absurd (omega arith), λ h. no (p.1 h.0)),
  inr (omega arith, omega arith),
)
exact_by true false r Long Fixed p q = (
  λ e. omega arith,
  (λ e. absurd (omega arith), λ h. absurd (h (p.0 refl))),
  (λ e. (p.0 refl, λ h. no (q.1 h)), λ h. refl),
  (λ e. absurd (omega arith), λ h. no (q.1 h.1)),
  (λ e. absurd (omega arith), λ h. no (q.1 h.1)),
  inr (omega arith, omega arith),
)
exact_by true true false Long Fixed p q = (
  λ e. omega arith,
  (λ e. absurd (omega arith), λ h. absurd (h (p.0 refl))),
  (λ e. absurd (omega arith), λ h. absurd (h.1 (q.0 refl))),
  (λ e. (p.0 refl, q.0 refl, refl), λ h. refl),
  (λ e. absurd (omega arith), λ h. no h.2),
  inr (omega arith, omega arith),
)
exact_by true true true Long Fixed p q = (
  λ e. omega arith,
  (λ e. absurd (omega arith), λ h. absurd (h (p.0 refl))),
  (λ e. absurd (omega arith), λ h. absurd (h.1 (q.0 refl))),
  (λ e. absurd (omega arith), λ h. no (sym h.2)),
  (λ e. (p.0 refl, q.0 refl, refl), λ h. refl),
  inl refl,
)

pub exact : {k : Kind} {body : List ℕ} {refusal : ℕ} → Tested k body refusal
    → Exact refusal (HasKindLength k body) (HasFixedOctets k body) (fields_in_range k body)
exact {k} {body} {refusal} t =
    subst (λ (n : ℕ). Exact n (HasKindLength k body) (HasFixedOctets k body) (fields_in_range k body)) (sym t.made)
    (subst (λ (r : Bool). Exact (refusal_by t.long t.fixed t.range) (HasKindLength k body) (HasFixedOctets k body) r) t.range_so
    (exact_by t.long t.fixed t.range (HasKindLength k body) (HasFixedOctets k body) t.long_so t.fixed_so))
