-- Laws of a history cut at flags: one call more, its last stretch, and that its account leaves no octet out. Assumes nothing.
use mathlib.Core.Path.{◌≡◌, refl, ◌∙◌, ap}
use mathlib.Core.Bool.{Bool, true, false, cond}
use mathlib.Core.List.{List, [], ◌∷◌, ◌++◌, map, nil≢cons, head-eq_of_cons-eq, tail-eq_of_cons-eq}
use Prim.Native.Nat.{ℕ, suc, ◌+◌}
use native.Mathlib.Omega.{arith}
use lib.Dec.{eqb}
use lib.ListN.{length}
use borrow.Author.Tests.{eqb-true, eqb-false, eq-eqb, ne_eqb}
use Rattle.ucp_frame.specs.Frame.{flag}
use Rattle.ucp_frame.specs.Stretch.{Verdict, silent, refused, delivered, verdict}
use Rattle.ucp_frame.proofs.Stuffing.{FlagFree, flag_free_cons}
use Rattle.ucp_history.specs.History.{Call, Segment, Cut, cut_at_flags, open_stretch, if_delivered, if_refused, over_closed, account}
use Rattle.thm_ucp_receiver.specs.Promises.{sum}
use Rattle.thm_ucp_receiver.proofs.Stretch.{verdict_answers}

abbrev pub segment : ℕ → List ℕ → Segment
segment room octets = record { room = room; octets = octets }

-- ---- one call more

abbrev with_flag : ℕ → Cut → Cut
with_flag room k = record { hunted = k.hunted; flags = k.flags ++ (segment room [] ∷ []) }

abbrev hunted_more : List Segment → List ℕ → ℕ → List ℕ
hunted_more [] hunted x = hunted ++ (x ∷ [])
hunted_more (s ∷ ss) hunted x = hunted

abbrev read_more : List Segment → ℕ → List Segment
read_more [] x = []
read_more (s ∷ []) x = segment s.room (s.octets ++ (x ∷ [])) ∷ []
read_more (s ∷ t ∷ ss) x = s ∷ read_more (t ∷ ss) x

abbrev with_octet : ℕ → Cut → Cut
with_octet x k = record { hunted = hunted_more k.flags k.hunted x; flags = read_more k.flags x }

-- `cut_at_flags` of a call and those behind it, by whether the call is a flag
abbrev ahead : Bool → Call → Cut → Cut
ahead t c k =
    cond t
    (record { hunted = []; flags = segment c.room k.hunted ∷ k.flags })
    (record { hunted = c.octet ∷ k.hunted; flags = k.flags })

ahead_flag : (t : Bool) (c : Call) (room : ℕ) (k : Cut) → ahead t c (with_flag room k) ≡ with_flag room (ahead t c k)
ahead_flag true c room k = refl
ahead_flag false c room k = refl

ahead_octet : (t : Bool) (c : Call) (x : ℕ) (hunted : List ℕ) (flags : List Segment)
    → ahead t c (with_octet x (record { hunted = hunted; flags = flags }))
    ≡ with_octet x (ahead t c (record { hunted = hunted; flags = flags }))
ahead_octet true c x hunted [] = refl
ahead_octet true c x hunted (s ∷ ss) = refl
ahead_octet false c x hunted [] = refl
ahead_octet false c x hunted (s ∷ ss) = refl

cut_flag : (h : List Call) (c : Call) → c.octet ≡ flag → cut_at_flags (h ++ (c ∷ [])) ≡ with_flag c.room (cut_at_flags h)
unfolding cut_at_flags
cut_flag [] c e = rw (eq-eqb c.octet flag e)
cut_flag (d ∷ ds) c e =
    ap (ahead (eqb d.octet flag) d) (cut_flag ds c e) ∙ ahead_flag (eqb d.octet flag) d c.room (cut_at_flags ds)

cut_octet : (h : List Call) (c : Call) → (c.octet ≡ flag → ⊥) → cut_at_flags (h ++ (c ∷ [])) ≡ with_octet c.octet (cut_at_flags h)
unfolding cut_at_flags
cut_octet [] c n = rw (ne_eqb c.octet flag n)
cut_octet (d ∷ ds) c n =
    ap (ahead (eqb d.octet flag) d) (cut_octet ds c n)
    ∙ ahead_octet (eqb d.octet flag) d c.octet (cut_at_flags ds).hunted (cut_at_flags ds).flags

module _ (h : List Call) (c : Call) where
  pub flags_flag : c.octet ≡ flag → (cut_at_flags (h ++ (c ∷ []))).flags ≡ (cut_at_flags h).flags ++ (segment c.room [] ∷ [])
  flags_flag e = ap (λ (k : Cut). k.flags) (cut_flag h c e)

  pub hunted_flag : c.octet ≡ flag → (cut_at_flags (h ++ (c ∷ []))).hunted ≡ (cut_at_flags h).hunted
  hunted_flag e = ap (λ (k : Cut). k.hunted) (cut_flag h c e)

  pub flags_octet : (c.octet ≡ flag → ⊥) → {flags : List Segment} → (cut_at_flags h).flags ≡ flags
      → (cut_at_flags (h ++ (c ∷ []))).flags ≡ read_more flags c.octet
  flags_octet n q = ap (λ (k : Cut). k.flags) (cut_octet h c n) ∙ ap (λ (fs : List Segment). read_more fs c.octet) q

  pub hunted_octet : (c.octet ≡ flag → ⊥) → {flags : List Segment} → (cut_at_flags h).flags ≡ flags
      → (cut_at_flags (h ++ (c ∷ []))).hunted ≡ hunted_more flags (cut_at_flags h).hunted c.octet
  hunted_octet n q =
      ap (λ (k : Cut). k.hunted) (cut_octet h c n) ∙ ap (λ (fs : List Segment). hunted_more fs (cut_at_flags h).hunted c.octet) q

-- ---- the last stretch

pub read_more_lem : (done : List Segment) (s : Segment) (x : ℕ)
    → read_more (done ++ (s ∷ [])) x ≡ done ++ (segment s.room (s.octets ++ (x ∷ [])) ∷ [])
read_more_lem [] s x = refl
read_more_lem (d ∷ []) s x = refl
read_more_lem (d ∷ e ∷ es) s x = ap (λ (r : List Segment). d ∷ r) (read_more_lem (e ∷ es) s x)

pub hunted_more_lem : (done : List Segment) (s : Segment) (hunted : List ℕ) (x : ℕ) → hunted_more (done ++ (s ∷ [])) hunted x ≡ hunted
hunted_more_lem [] s hunted x = refl
hunted_more_lem (d ∷ ds) s hunted x = refl

pub open_last : (done : List Segment) (s : Segment) → open_stretch (done ++ (s ∷ [])) ≡ s.octets
unfolding open_stretch
open_last [] s = refl
open_last (d ∷ []) s = refl
open_last (d ∷ e ∷ es) s = open_last (e ∷ es) s

-- a sum over the closed stretches: the open one is no part of it, and a flag closes one more
module _ (f : Verdict → ℕ → ℕ) where
  pub closed_same : (done : List Segment) (room : ℕ) (raw other : List ℕ)
      → over_closed f (done ++ (segment room raw ∷ [])) ≡ over_closed f (done ++ (segment room other ∷ []))
  unfolding over_closed
  closed_same [] room raw other = refl
  closed_same (d ∷ []) room raw other = refl
  closed_same (d ∷ e ∷ es) room raw other =
      ap (λ (n : ℕ). f (verdict d.octets e.room) (length d.octets) + n) (closed_same (e ∷ es) room raw other)

  pub closed_more : (f silent 0 ≡ 0) → (flags : List Segment) (s : Segment)
      → over_closed f (flags ++ (s ∷ [])) ≡ over_closed f flags + f (verdict (open_stretch flags) s.room) (length (open_stretch flags))
  unfolding over_closed open_stretch verdict
  closed_more z [] s = omega arith
  closed_more z (d ∷ []) s = omega arith
  closed_more z (d ∷ e ∷ es) s = omega (arith, closed_more z (e ∷ es) s)

-- ---- the octets from the last flag on

abbrev pub octets_of : List Call → List ℕ
octets_of = map (λ (c : Call). c.octet)

cut_hunts : (h : List Call) → FlagFree (octets_of h) → cut_at_flags h ≡ record { hunted = octets_of h; flags = [] }
unfolding cut_at_flags
cut_hunts [] f = refl
cut_hunts (c ∷ cs) f = rw (ne_eqb c.octet flag (f 0), cut_hunts cs (λ i. f (suc i)))

-- the octets of the stretch that is open
pub record LastStretch (flags : List Segment) (raw : List ℕ) : Type 0 where
  pub done : List Segment
  pub room : ℕ
  pub parts : flags ≡ done ++ (segment room raw ∷ [])

pub cut_last : (h : List Call) (earlier raw : List ℕ) → octets_of h ≡ earlier ++ flag ∷ raw → FlagFree raw
    → LastStretch (cut_at_flags h).flags raw
unfolding cut_at_flags
cut_last [] [] raw e f = absurd (nil≢cons e)
cut_last [] (y ∷ ys) raw e f = absurd (nil≢cons e)
cut_last (c ∷ cs) [] raw e f =
    let t : octets_of cs ≡ raw = tail-eq_of_cons-eq e in
    let g : FlagFree (octets_of cs) = rw t f in
    rw (eq-eqb c.octet flag (head-eq_of_cons-eq e), cut_hunts cs g)
    (record { done = []; room = c.room; parts = ap (λ (r : List ℕ). segment c.room r ∷ []) t })
cut_last (c ∷ cs) (y ∷ ys) raw e f = go (cut_last cs ys raw (tail-eq_of_cons-eq e) f) (eqb c.octet flag)
  where
    go : LastStretch (cut_at_flags cs).flags raw → (t : Bool) → LastStretch (ahead t c (cut_at_flags cs)).flags raw
    go l true =
        record {
          done = segment c.room (cut_at_flags cs).hunted ∷ l.done;
          room = l.room;
          parts = ap (λ (r : List Segment). segment c.room (cut_at_flags cs).hunted ∷ r) l.parts;
        }
    go l false = l

-- where the last flag stands
pub data LastFlag (h : List Call) : Type 0 where
  none : (cut_at_flags h).flags ≡ [] → FlagFree (octets_of h) → LastFlag h
  at : (earlier raw : List ℕ) → octets_of h ≡ earlier ++ flag ∷ raw → FlagFree raw → LastFlag h

pub last_flag : (h : List Call) → LastFlag h
unfolding cut_at_flags
last_flag [] = none refl (λ i e. omega arith)
last_flag (c ∷ cs) = go (last_flag cs) (eqb c.octet flag) refl
  where
    go : LastFlag cs → (t : Bool) → eqb c.octet flag ≡ t → LastFlag (c ∷ cs)
    go (none k f) true e = at [] (octets_of cs) (ap (λ (x : ℕ). x ∷ octets_of cs) (eqb-true c.octet flag e)) f
    go (none k f) false e = none (rw e k) (flag_free_cons c.octet (octets_of cs) (eqb-false c.octet flag e) f)
    go (at earlier raw p f) t e = at (c.octet ∷ earlier) raw (ap (λ (r : List ℕ). c.octet ∷ r) p) f

-- ---- the account leaves no octet out

by_answer : (raw : List ℕ) (room : ℕ)
    → if_delivered (verdict raw room) (length raw) + if_refused (verdict raw room) (length raw) ≡ length raw
unfolding verdict
by_answer [] room = omega arith
by_answer (x ∷ xs) room = go (verdict (x ∷ xs) room) (verdict_answers x xs room)
  where
    go : (v : Verdict) → (v ≡ silent → ⊥) → if_delivered v (suc (length xs)) + if_refused v (suc (length xs)) ≡ suc (length xs)
    go silent n = absurd (n refl)
    go (refused number) n = omega arith
    go (delivered body) n = omega arith

octets_in : List Segment → ℕ
octets_in [] = 0
octets_in (s ∷ ss) = length s.octets + octets_in ss

in_stretches : (flags : List Segment)
    → over_closed if_delivered flags + over_closed if_refused flags + length (open_stretch flags) ≡ octets_in flags
unfolding over_closed open_stretch octets_in
in_stretches [] = omega arith
in_stretches (s ∷ []) = omega arith
in_stretches (s ∷ t ∷ ss) = omega (arith, in_stretches (t ∷ ss), by_answer s.octets t.room)

in_all : (h : List Call) → length (cut_at_flags h).flags + length (cut_at_flags h).hunted + octets_in (cut_at_flags h).flags ≡ length h
unfolding cut_at_flags octets_in
in_all [] = omega arith
in_all (c ∷ cs) = go (eqb c.octet flag) (in_all cs)
  where
    octets : Cut → ℕ
    octets k = length k.flags + length k.hunted + octets_in k.flags

    go : (t : Bool) → octets (cut_at_flags cs) ≡ length cs → octets (ahead t c (cut_at_flags cs)) ≡ suc (length cs)
    go true e = omega arith
    go false e = omega arith

pub account_sum : (h : List Call) → sum (account h) ≡ length h
account_sum h = omega (arith, in_all h, in_stretches (cut_at_flags h).flags)
