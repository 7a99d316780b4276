-- What is known of an input whose frame is accepted. Assumes nothing.
use mathlib.Core.Path.{◌≡◌, refl, sym, ap, ◌∙◌}
use mathlib.Core.Bool.{Bool, true, false, cond}
use mathlib.Core.List.{List, [], ◌∷◌}
use Prim.Native.Nat.{ℕ, ◌+◌, ◌≤◌}
use native.Mathlib.Omega.{arith}
use borrow.Author.Tests.{eqb-true, ltb-false}
use lib.Dec.{eqb, ltb}
use lib.ListN.{length, get_or}
use Rattle.mavlink_frame.specs.declared.Kind.{Kind}
use Rattle.mavlink_frame.specs.declared.Header.{Header}
use Rattle.mavlink_frame.specs.Frame.{KindAnswer, known, unknown, kinds, kind_among, mavlink_kind, start}
use Rattle.mavlink_frame.specs.Reader.{FrameAnswer, refused, frame, header_at, check_at, check_due, found_of, found_by, found}

pub record Accepted (s : List ℕ) (id : ℕ) (h : Header) (used : ℕ) : Type 0 where
  pub kind : Kind
  pub known : mavlink_kind id ≡ known kind
  pub named : kind.id ≡ id
  pub ends : used ≡ kind.length + 8
  pub room : used ≤ length s
  pub starts : get_or s 0 0 ≡ start
  pub sized : get_or s 1 0 ≡ kind.length
  pub header : h ≡ header_at s
  pub numbered : get_or s 5 0 ≡ id
  pub checks : check_at kind.length s ≡ check_due kind.length kind.extra s

-- the kind that the table gives has the ID
given : (ks : List Kind) (id : ℕ) (k : Kind) → kind_among ks id ≡ known k → k.id ≡ id
given [] id k e = let z : ◌≡◌ {A = ℕ} 0 1 = cc in absurd (omega arith)
given (j ∷ ks) id k e = go (eqb id j.id) refl (given ks id k) e
  where
    go : (t : Bool) → eqb id j.id ≡ t → (kind_among ks id ≡ known k → k.id ≡ id) → cond t (known j) (kind_among ks id) ≡ known k → k.id ≡ id
    go true t later f = let same : j ≡ k = cc in sym (ap (λ x. x.id) same) ∙ sym (eqb-true _ _ t)
    go false t later f = later f

module _ (s : List ℕ) (id : ℕ) (h : Header) (used : ℕ) where
  -- a test that refuses was not met, and one that is asked for was
  passed : (t : Bool) (number : ℕ) {rest : FrameAnswer} → cond t (refused number) rest ≡ frame id h used
      → (t ≡ false) × (rest ≡ frame id h used)
  passed true number e = let z : ◌≡◌ {A = ℕ} 0 1 = cc in absurd (omega arith)
  passed false number e = (refl, e)

  met : (t : Bool) (number : ℕ) {rest : FrameAnswer} → cond t rest (refused number) ≡ frame id h used
      → (t ≡ true) × (rest ≡ frame id h used)
  met true number e = (refl, e)
  met false number e = let z : ◌≡◌ {A = ℕ} 0 1 = cc in absurd (omega arith)

  of_kind : get_or s 0 0 ≡ start → (l : KindAnswer) → mavlink_kind (get_or s 5 0) ≡ l → found_by l s ≡ frame id h used → Accepted s id h used
  unfolding found_of mavlink_kind
  of_kind first unknown l e = let z : ◌≡◌ {A = ℕ} 0 1 = cc in absurd (omega arith)
  of_kind first (known k) l e =
      let sized = met (eqb (get_or s 1 0) k.length) 23 e in
      let room = passed (ltb (length s) (k.length + 8)) 20 sized.1 in
      let checks = met (eqb (check_at k.length s) (check_due k.length k.extra s)) 24 room.1 in
      let same : k.id ≡ id = cc in
      let here : get_or s 5 0 ≡ id = sym (given kinds (get_or s 5 0) k l) ∙ same in
      let behind : k.length + 8 ≡ used = cc in
      record {
        kind = k;
        known = ap mavlink_kind (sym here) ∙ l;
        named = same;
        ends = sym behind;
        room = omega (arith, ltb-false (length s) (k.length + 8) room.0);
        starts = first;
        sized = eqb-true _ _ sized.0;
        header = cc;
        numbered = here;
        checks = eqb-true _ _ checks.0;
      }

  pub accepted : found s ≡ frame id h used → Accepted s id h used
  unfolding found
  accepted e =
      let some = passed (eqb (length s) 0) 20 e in
      let first = met (eqb (get_or s 0 0) start) 21 some.1 in
      let six = passed (ltb (length s) 6) 20 first.1 in
      of_kind (eqb-true _ _ first.0) (mavlink_kind (get_or s 5 0)) refl six.1
