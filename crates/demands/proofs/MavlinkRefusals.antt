-- The reader of MAVLink gives 20 to 25 exactly when each is due. Assumes nothing.
use mathlib.Core.Path.{◌≡◌, refl, sym, ap, subst, ◌∙◌}
use mathlib.Core.Bool.{Bool, true, false, cond}
use mathlib.Core.List.{List}
use mathlib.Core.Logic.{inl, inr, ◌↔◌}
use Prim.Native.Nat.{ℕ, ◌+◌, ◌-◌, ◌≤◌}
use native.Mathlib.Omega.{arith}
use borrow.Author.Tests.{eqb-true, eqb-false, eq-eqb, ne_eqb, ltb-true, ltb-false, lt-ltb, le-ltb}
use lib.Dec.{eqb, ltb}
use lib.ListN.{length, get_or}
use Rattle.field_format.specs.Format.{value_in}
use Rattle.mavlink_frame.specs.declared.Kind.{Kind}
use Rattle.mavlink_frame.specs.declared.Header.{Header}
use Rattle.mavlink_frame.specs.Reader as found_as
use Rattle.mavlink_frame.specs.Frame.{start, KindAnswer, known, unknown, mavlink_kind}
use Rattle.mavlink_frame.specs.Reader.{header_at, payload_at, check_at, check_due, found_of, found_by, found}
use Rattle.mavlink_frame.proofs.reader.Accepted.{accepted}
use Rattle.mavlink_messages.specs.declared.Message.{Message}
use Rattle.mavlink_messages.specs.declared.Message.TheVariants as kinds
use Rattle.mavlink_messages.specs.Messages as read_as
use Rattle.mavlink_messages.specs.DataStream66.{data_stream_format}
use Rattle.mavlink_messages.specs.Static201.{static_format}
use Rattle.mavlink_messages.specs.Dynamic202.{dynamic_format}
use Rattle.mavlink_messages.specs.Status203.{status_format}
use Rattle.mavlink_messages.specs.Traffic246.{traffic_format}
use Rattle.mavlink_messages.specs.Messages.{MavlinkAnswer, judged_by, payload_read, read_by, read_due}
use Rattle.mavlink_messages.specs.Refusals.{HasHeader, kind_named, OfKind, OfNoKind, HasLength, HasFrame, HasRightCheck, payload_in_range, CutShort, OutsideRange, MavlinkShort, MavlinkWrongStart, MavlinkUnknownId, MavlinkWrongLength, MavlinkWrongCheck, MavlinkOutsideRange}
use Rattle.thm_mavlink_messages.proofs.Tabled.{tabled_mavlink}
use Rattle.c_mavlink.specs.Readers.{read_number}
use Rattle.thm_c_messages.proofs.Tests.{no}
use Rattle.demands.specs.LinkedMavlink.{WithinRange, MavlinkAccepted}

-- ---- a payload: 25, and no other
abbrev Judged : MavlinkAnswer → Bool → Type 0
Judged r right = (n : ℕ) → (r ≡ read_as.refused n) ↔ ((n ≡ 25) × (right ≡ false))

judged_so : (right : Bool) (h : Header) (used : ℕ) (m : Message) → Judged (judged_by right h used m) right
judged_so true h used m n = (
  (λ e. let z : ◌≡◌ {A = ℕ} 0 1 = cc in absurd (omega arith)),
  λ t. let f = t.1 in let z : ◌≡◌ {A = ℕ} 0 1 = cc in absurd (omega arith),
)
judged_so false h used m n = ((λ e. let z : n ≡ 25 = cc in (z, refl)), λ t. ap read_as.refused (sym t.0))

-- of a kind of the table
abbrev Tabled : KindAnswer → Type 0
Tabled (known k) = (h : Header) (used : ℕ) (p : List ℕ) → Judged (payload_read k.id h used p) (payload_in_range k.id p)
Tabled unknown = Unit {0}

either : (t : Bool) (x y : KindAnswer) → Tabled x → Tabled y → Tabled (cond t x y)
either true x y p q = p
either false x y p q = q

tabled : (id : ℕ) → Tabled (mavlink_kind id)
unfolding mavlink_kind
tabled id =
    either (eqb id 66) _ _ (λ h used p. judged_so true h used (kinds.DataStream (value_in data_stream_format p)))
    (either (eqb id 201) _ _ (λ h used p. judged_so _ h used (kinds.Static (value_in static_format p)))
    (either (eqb id 202) _ _ (λ h used p. judged_so _ h used (kinds.Dynamic (value_in dynamic_format p)))
    (either (eqb id 203) _ _ (λ h used p. judged_so true h used (kinds.Status (value_in status_format p)))
    (either (eqb id 246) _ _ (λ h used p. judged_so _ h used (kinds.Traffic (value_in traffic_format p))) tt))))

-- ---- behind the header, by what the table has for the ID
abbrev DueBy : KindAnswer → List ℕ → ℕ → Type 0
DueBy l s n =
    (n ≡ 20 → OfKind (CutShort s) l)
    × (n ≡ 21 → ⊥)
    × (n ≡ 22 → OfNoKind l)
    × (n ≡ 23 → OfKind (λ k. HasLength s k → ⊥) l)
    × (n ≡ 24 → OfKind (λ k. HasFrame s k × (HasRightCheck s k → ⊥)) l)
    × (n ≡ 25 → OfKind (λ k. HasFrame s k × HasRightCheck s k × OutsideRange s k) l)

due_of : (k : Kind) (s : List ℕ) (n : ℕ) → Tabled (known k) → read_by (found_of k s) s ≡ read_as.refused n → DueBy (known k) s n
unfolding found_of
due_of k s n t =
    go (eqb (get_or s 1 0) k.length) refl (ltb (length s) (k.length + 8)) refl
    (eqb (check_at k.length s) (check_due k.length k.extra s)) refl
  where
    go : (a : Bool) → eqb (get_or s 1 0) k.length ≡ a → (b : Bool) → ltb (length s) (k.length + 8) ≡ b
        → (c : Bool) → eqb (check_at k.length s) (check_due k.length k.extra s) ≡ c
        → read_by (cond a (cond b (found_as.refused 20) (cond c (found_as.frame k.id (header_at s) (k.length + 8)) (found_as.refused 24))) (found_as.refused 23)) s
        ≡ read_as.refused n
        → DueBy (known k) s n
    go false ea b eb c ec e =
        let z : n ≡ 23 = cc in
        (λ d. absurd (omega arith), λ d. omega arith, λ d. omega arith, λ d. eqb-false _ _ ea, λ d. absurd (omega arith), λ d. absurd (omega arith))
    go true ea true eb c ec e =
        let z : n ≡ 20 = cc in
        (λ d. (eqb-true _ _ ea, ltb-true _ _ eb), λ d. omega arith, λ d. omega arith, λ d. absurd (omega arith), λ d. absurd (omega arith), λ d. absurd (omega arith))
    go true ea false eb false ec e =
        let z : n ≡ 24 = cc in (
          λ d. absurd (omega arith),
          λ d. omega arith,
          λ d. omega arith,
          λ d. absurd (omega arith),
          λ d. ((eqb-true _ _ ea, ltb-false _ _ eb), eqb-false _ _ ec),
          λ d. absurd (omega arith),
        )
    go true ea false eb true ec e =
        let j = (t (header_at s) (k.length + 8) (payload_at (k.length + 8 - 8) s) n).0 e in
        let z : n ≡ 25 = j.0 in
        let size : k.length + 8 - 8 ≡ k.length = omega arith in (
          λ d. absurd (omega arith),
          λ d. omega arith,
          λ d. omega arith,
          λ d. absurd (omega arith),
          λ d. absurd (omega arith),
          λ d. (
            (eqb-true _ _ ea, ltb-false _ _ eb),
            eqb-true _ _ ec,
            subst (λ (m : ℕ). payload_in_range k.id (payload_at m s) ≡ false) size j.1,
          ),
        )

due_by : (l : KindAnswer) (s : List ℕ) (n : ℕ) → Tabled l → read_by (found_by l s) s ≡ read_as.refused n → DueBy l s n
due_by (known k) s n t e = due_of k s n t e
due_by unknown s n t e =
    let z : n ≡ 22 = cc in
    (λ d. omega arith, λ d. omega arith, λ d. tt, λ d. omega arith, λ d. omega arith, λ d. omega arith)

-- and the other way
module _ (k : Kind) (s : List ℕ) where
  of_20 : CutShort s k → found_of k s ≡ found_as.refused 20
  unfolding found_of
  of_20 c = rw (eq-eqb (get_or s 1 0) k.length c.0, lt-ltb (length s) (k.length + 8) c.1)

  of_23 : (HasLength s k → ⊥) → found_of k s ≡ found_as.refused 23
  unfolding found_of
  of_23 c = rw (ne_eqb (get_or s 1 0) k.length c)

  of_24 : HasFrame s k → (HasRightCheck s k → ⊥) → found_of k s ≡ found_as.refused 24
  unfolding found_of
  of_24 f c =
      rw (
        eq-eqb (get_or s 1 0) k.length f.0,
        le-ltb (length s) (k.length + 8) f.1,
        ne_eqb (check_at k.length s) (check_due k.length k.extra s) c,
      )

  of_frame : HasFrame s k → HasRightCheck s k → found_of k s ≡ found_as.frame k.id (header_at s) (k.length + 8)
  unfolding found_of
  of_frame f c =
      rw (
        eq-eqb (get_or s 1 0) k.length f.0,
        le-ltb (length s) (k.length + 8) f.1,
        eq-eqb (check_at k.length s) (check_due k.length k.extra s) c,
      )

by_20 : (l : KindAnswer) (s : List ℕ) → OfKind (CutShort s) l → read_by (found_by l s) s ≡ read_as.refused 20
by_20 (known k) s c = ap (λ f. read_by f s) (of_20 k s c)
by_20 unknown s c = absurd c

by_22 : (l : KindAnswer) (s : List ℕ) → OfNoKind l → read_by (found_by l s) s ≡ read_as.refused 22
by_22 (known k) s c = absurd c
by_22 unknown s c = refl

by_23 : (l : KindAnswer) (s : List ℕ) → OfKind (λ k. HasLength s k → ⊥) l → read_by (found_by l s) s ≡ read_as.refused 23
by_23 (known k) s c = ap (λ f. read_by f s) (of_23 k s c)
by_23 unknown s c = absurd c

by_24 : (l : KindAnswer) (s : List ℕ) → OfKind (λ k. HasFrame s k × (HasRightCheck s k → ⊥)) l → read_by (found_by l s) s ≡ read_as.refused 24
by_24 (known k) s c = ap (λ f. read_by f s) (of_24 k s c.0 c.1)
by_24 unknown s c = absurd c

by_25 : (l : KindAnswer) (s : List ℕ) → Tabled l → OfKind (λ k. HasFrame s k × HasRightCheck s k × OutsideRange s k) l
    → read_by (found_by l s) s ≡ read_as.refused 25
by_25 (known k) s t c =
    let size : k.length ≡ k.length + 8 - 8 = omega arith in
    ap (λ f. read_by f s) (of_frame k s c.0 c.1)
    ∙ (t (header_at s) (k.length + 8) (payload_at (k.length + 8 - 8) s) 25).1
    (refl, subst (λ (m : ℕ). payload_in_range k.id (payload_at m s) ≡ false) size c.2)
by_25 unknown s t c = absurd c

-- ---- the whole input
abbrev Due : List ℕ → ℕ → Type 0
Due s n =
    (n ≡ 20 → MavlinkShort s)
    × (n ≡ 21 → MavlinkWrongStart s)
    × (n ≡ 22 → MavlinkUnknownId s)
    × (n ≡ 23 → MavlinkWrongLength s)
    × (n ≡ 24 → MavlinkWrongCheck s)
    × (n ≡ 25 → MavlinkOutsideRange s)

due : (s : List ℕ) (n : ℕ) → read_due s ≡ read_as.refused n → Due s n
unfolding found
due s n = go (eqb (length s) 0) refl (eqb (get_or s 0 0) start) refl (ltb (length s) 6) refl
  where
    go : (a : Bool) → eqb (length s) 0 ≡ a → (b : Bool) → eqb (get_or s 0 0) start ≡ b → (c : Bool) → ltb (length s) 6 ≡ c
        → read_by (cond a (found_as.refused 20) (cond b (cond c (found_as.refused 20) (found_by (mavlink_kind (get_or s 5 0)) s)) (found_as.refused 21))) s
        ≡ read_as.refused n
        → Due s n
    go true ea b eb c ec e =
        let z : n ≡ 20 = cc in
        (λ d. inl (eqb-true _ _ ea), λ d. absurd (omega arith), λ d. absurd (omega arith), λ d. absurd (omega arith), λ d. absurd (omega arith), λ d. absurd (omega arith))
    go false ea false eb c ec e =
        let z : n ≡ 21 = cc in
        let some : 1 ≤ length s = omega (arith, eqb-false (length s) 0 ea) in
        (λ d. absurd (omega arith), λ d. (some, eqb-false _ _ eb), λ d. absurd (omega arith), λ d. absurd (omega arith), λ d. absurd (omega arith), λ d. absurd (omega arith))
    go false ea true eb true ec e =
        let z : n ≡ 20 = cc in
        let some : 1 ≤ length s = omega (arith, eqb-false (length s) 0 ea) in
        (λ d. inr (inl (some, eqb-true _ _ eb, ltb-true _ _ ec)), λ d. absurd (omega arith), λ d. absurd (omega arith), λ d. absurd (omega arith), λ d. absurd (omega arith), λ d. absurd (omega arith))
    go false ea true eb false ec e =
        let h : HasHeader s = (eqb-true _ _ eb, ltb-false _ _ ec) in
        let k = due_by (kind_named s) s n (tabled (get_or s 5 0)) e in
        (λ d. inr (inr (h, k.0 d)), λ d. absurd (k.1 d), λ d. (h, k.2 d), λ d. (h, k.3 d), λ d. (h, k.4 d), λ d. (h, k.5 d))

headed : (s : List ℕ) → HasHeader s → found s ≡ found_by (kind_named s) s
unfolding found
headed s h =
    rw (ne_eqb (length s) 0 (λ e. omega (arith, h.1)), eq-eqb (get_or s 0 0) start h.0, le-ltb (length s) 6 h.1)

-- what is read behind a header
read : (s : List ℕ) {r : MavlinkAnswer} → HasHeader s → read_by (found_by (kind_named s) s) s ≡ r → read_due s ≡ r
read s h e = ap (λ f. read_by f s) (headed s h) ∙ e

short : (s : List ℕ) → MavlinkShort s → read_due s ≡ read_as.refused 20
unfolding found
short s (inl z) = rw (eq-eqb (length s) 0 z)
short s (inr (inl c)) =
    rw (ne_eqb (length s) 0 (λ e. omega (arith, c.0)), eq-eqb (get_or s 0 0) start c.1, lt-ltb (length s) 6 c.2)
short s (inr (inr c)) = read s c.0 (by_20 (kind_named s) s c.1)

-- ---- what the frame alone refuses with: not with 25; and a frame that is found is refused with nothing else
module _ (s : List ℕ) where
  never_25 : (l : KindAnswer) → OfKind (λ k. HasFrame s k × HasRightCheck s k × OutsideRange s k) l → found_by l s ≡ found_as.refused 25 → ⊥
  never_25 (known k) c e = let f = of_frame k s c.0 c.1 in let z : ◌≡◌ {A = ℕ} 0 1 = cc in omega arith
  never_25 unknown c e = c

  pub frame_never_25 : found s ≡ found_as.refused 25 → ⊥
  frame_never_25 e =
      let c = (due s 25 (ap (λ f. read_by f s) e)).5 refl in
      never_25 (kind_named s) c.1 (sym (headed s c.0) ∙ e)

  pub found_then_25 : (id : ℕ) (h : Header) (used n : ℕ) → found s ≡ found_as.frame id h used → read_due s ≡ read_as.refused n → n ≡ 25
  found_then_25 id h used n e r =
      let a = accepted s id h used e in
      let p : List ℕ = payload_at (used - 8) s in
      let t : Tabled (known a.kind) = subst Tabled a.known (tabled id) in
      let d : payload_read id h used p ≡ read_as.refused n = sym (ap (λ f. read_by f s) e) ∙ r in
      ((t h used p n).0 (subst (λ (i : ℕ). payload_read i h used p ≡ read_as.refused n) (sym a.named) d)).0

module _ (s : List ℕ) where
  pub exactly_20 : (read_due s ≡ read_as.refused 20) ↔ MavlinkShort s
  exactly_20 = (λ e. (due s 20 e).0 refl, short s)

  pub exactly_21 : (read_due s ≡ read_as.refused 21) ↔ MavlinkWrongStart s
  unfolding found
  exactly_21 = (
    λ e. (due s 21 e).1 refl,
    λ c. rw (ne_eqb (length s) 0 (λ e. omega (arith, c.0)), ne_eqb (get_or s 0 0) start c.1),
  )

  pub exactly_22 : (read_due s ≡ read_as.refused 22) ↔ MavlinkUnknownId s
  exactly_22 = (λ e. (due s 22 e).2 refl, λ c. read s c.0 (by_22 (kind_named s) s c.1))

  pub exactly_23 : (read_due s ≡ read_as.refused 23) ↔ MavlinkWrongLength s
  exactly_23 = (λ e. (due s 23 e).3 refl, λ c. read s c.0 (by_23 (kind_named s) s c.1))

  pub exactly_24 : (read_due s ≡ read_as.refused 24) ↔ MavlinkWrongCheck s
  exactly_24 = (λ e. (due s 24 e).4 refl, λ c. read s c.0 (by_24 (kind_named s) s c.1))

  pub exactly_25 : (read_due s ≡ read_as.refused 25) ↔ MavlinkOutsideRange s
  exactly_25 = (λ e. (due s 25 e).5 refl, λ c. read s c.0 (by_25 (kind_named s) s (tabled (get_or s 5 0)) c.1))

-- ---- no refusal: a frame that is found has all but the range
means_so : {r : MavlinkAnswer} {right : Bool} → Judged r right → (read_number r ≡ 0) ↔ (right ≡ true)
means_so {r} {right} j = (to right refl, from r refl)
  where
    to : (b : Bool) → right ≡ b → read_number r ≡ 0 → b ≡ true
    to true e z = refl
    to false e z =
        let refuses : read_number r ≡ 25 = ap read_number ((j 25).1 (refl, e)) in
        absurd (omega arith)

    from : (a : MavlinkAnswer) → r ≡ a → right ≡ true → read_number a ≡ 0
    from (read_as.refused n) e t = no (sym ((j n).0 e).1 ∙ t)
    from (read_as.means h used m f) e t = refl

module _ (s : List ℕ) where
  is_accepted : (l : found_as.FrameAnswer) → found s ≡ l → read_number (read_by l s) ≡ 0 → MavlinkAccepted s
  is_accepted (found_as.refused n) e z =
      let none : n ≡ 0 = z in
      absurd (omega (arith, (tabled_mavlink s n (ap (λ f. read_by f s) e)).0))
  is_accepted (found_as.frame id h used) e z =
      let a = accepted s id h used e in
      let p : List ℕ = payload_at (used - 8) s in
      let t : Tabled (known a.kind) = subst Tabled a.known (tabled id) in
      let size : used - 8 ≡ a.kind.length = omega (arith, a.ends) in
      let own : read_number (payload_read a.kind.id h used p) ≡ 0 = subst (λ (i : ℕ). read_number (payload_read i h used p) ≡ 0) (sym a.named) z in
      let within : WithinRange s a.kind =
      subst (λ (m : ℕ). payload_in_range a.kind.id (payload_at m s) ≡ true) size ((means_so (t h used p)).0 own) in (
        (a.starts, omega (arith, a.room, a.ends)),
        subst (λ (l : KindAnswer). OfKind (λ k. HasFrame s k × HasRightCheck s k × WithinRange s k) l)
            (sym (ap mavlink_kind a.numbered ∙ a.known))
            ((a.sized, omega (arith, a.room, a.ends)), a.checks, within),
      )

  by_means : (l : KindAnswer) → Tabled l → OfKind (λ k. HasFrame s k × HasRightCheck s k × WithinRange s k) l
      → read_number (read_by (found_by l s) s) ≡ 0
  by_means (known k) t c =
      let size : k.length ≡ k.length + 8 - 8 = omega arith in
      ap (λ f. read_number (read_by f s)) (of_frame k s c.0 c.1)
      ∙ (means_so (t (header_at s) (k.length + 8) (payload_at (k.length + 8 - 8) s))).1
      (subst (λ (m : ℕ). payload_in_range k.id (payload_at m s) ≡ true) size c.2)
  by_means unknown t c = absurd c

  pub exactly_accepted : (read_number (read_due s) ≡ 0) ↔ MavlinkAccepted s
  exactly_accepted = (
    is_accepted (found s) refl,
    λ c. ap (λ f. read_number (read_by f s)) (headed s c.0) ∙ by_means (kind_named s) (tabled (get_or s 5 0)) c.1,
  )
