-- Where the record stands after a history: each call takes it where one call more takes the history, and answers what is
-- due by the history; the store is zero beyond what it holds. Assumes nothing.
use mathlib.Core.Path.{◌≡◌, refl, sym, ◌∙◌, ap, subst}
use mathlib.Core.Bool.{Bool, true, false, cond}
use mathlib.Core.List.{List, [], ◌∷◌, ◌++◌}
use Prim.Native.Nat.{ℕ, zero, suc, ◌-◌, ◌≤◌}
use native.Mathlib.Omega.{arith}
use lib.Dec.{eqb, ltb}
use lib.ListN.{length, take, get_or, replicate, length-append, length-replicate, length-take}
use lib.Seq.{take_all}
use borrow.Author.Tests.{eqb-true, eqb-false, ltb-false}
use Rattle.ucp_frame.specs.Frame.{flag}
use Rattle.ucp_frame.specs.Stretch.{Unstuffed, unstuffed, Verdict, silent, store_octets, verdict}
use Rattle.ucp_history.specs.History.{Call, Segment, cut_at_flags, open_stretch, answer}
use Rattle.ucp_receiver.specs.declared.Phase.{Phase}
use Rattle.ucp_receiver.specs.declared.Phase.TheVariants.{Hunting, TooLong}
use Rattle.ucp_receiver.specs.Octet.{State, fresh, state_after, verdict_due}
use Rattle.thm_ucp_receiver.specs.Promises.{CleanBeyond, StoreAs}
use Rattle.thm_ucp_receiver.proofs.Reached.{advanced, closed, holding, phase_at, reached, reached_more, reached_closed}
use Rattle.thm_ucp_receiver.proofs.Cut.{segment, flags_flag, flags_octet, read_more_lem, open_last}

pub data Stands (h : List Call) (s : State) : Type 0 where
  hunts : s ≡ fresh → (cut_at_flags h).flags ≡ [] → Stands h s
  reads : (done : List Segment) (room : ℕ) (raw : List ℕ) → s ≡ reached (unstuffed raw)
      → (cut_at_flags h).flags ≡ done ++ (segment room raw ∷ []) → Stands h s

pub stands_fresh : Stands [] fresh
unfolding cut_at_flags
stands_fresh = hunts refl refl

module _ (h : List Call) (s : State) (c : Call) where
  pub stands_next : Stands h s → Stands (h ++ (c ∷ [])) (state_after s c.octet)
  unfolding state_after reached unstuffed
  stands_next = go (eqb c.octet flag) refl
    where
      go : (t : Bool) → eqb c.octet flag ≡ t → Stands h s → Stands (h ++ (c ∷ [])) (state_after s c.octet)
      go true e st = rw e (reads (cut_at_flags h).flags c.room [] refl (flags_flag h c (eqb-true c.octet flag e)))
      go false e (hunts p q) = rw e (hunts (ap (advanced c.octet) p) (flags_octet h c (eqb-false c.octet flag e) q))
      go false e (reads done room raw p q) =
          rw e (reads done room (raw ++ (c.octet ∷ [])) (ap (advanced c.octet) p ∙ reached_more raw c.octet)
          (flags_octet h c (eqb-false c.octet flag e) q ∙ read_more_lem done (segment room raw) c.octet))

  pub stands_closed : Stands h s → closed c.room s ≡ verdict (open_stretch (cut_at_flags h).flags) c.room
  unfolding open_stretch verdict
  stands_closed (hunts p q) = ap (closed c.room) p ∙ ap (λ (fs : List Segment). verdict (open_stretch fs) c.room) (sym q)
  stands_closed (reads done room raw p q) =
      ap (closed c.room) p ∙ reached_closed raw c.room
      ∙ ap (λ (octets : List ℕ). verdict octets c.room) (sym (ap open_stretch q ∙ open_last done (segment room raw)))

  pub stands_answer : Stands h s → verdict_due s c.octet c.room ≡ answer h c
  unfolding verdict_due answer
  stands_answer st = ap (λ (v : Verdict). cond (eqb c.octet flag) v silent) (stands_closed st)

-- ---- the store

beyond : (held : List ℕ) (n i : ℕ) → length held ≤ i → ◌≡◌ {A = ℕ} (get_or (held ++ replicate n 0) i 0) 0
beyond [] zero i h = refl
beyond [] (suc n) zero h = refl
beyond [] (suc n) (suc i) h = beyond [] n i (omega arith)
beyond (x ∷ xs) n zero h = absurd (omega arith)
beyond (x ∷ xs) n (suc i) h = beyond xs n i (omega arith)

abbrev Clean : State → Type 0
Clean s = CleanBeyond s.rest.stored s.store

clean : (p : Phase) (held : List ℕ) → length held ≤ store_octets → Clean (holding p held)
clean p held h =
    record {
      whole = simp (length-append, length-replicate) (omega arith);
      zero = beyond held (store_octets - length held);
    }

reached_clean : (u : Unstuffed) → Clean (reached u)
unfolding reached
reached_clean u = go (ltb store_octets (length u.octets)) refl
  where
    go : (t : Bool) → ltb store_octets (length u.octets) ≡ t → Clean (reached u)
    go true e = rw e (clean TooLong (take store_octets u.octets) (simp length-take (omega arith)))
    go false e = rw e (clean (phase_at u.ending) u.octets (ltb-false store_octets (length u.octets) e))

pub stands_clean : (h : List Call) (s : State) → Stands h s → CleanBeyond s.rest.stored s.store
stands_clean h s (hunts p q) = subst Clean (sym p) (clean Hunting [] (omega arith))
stands_clean h s (reads done room raw p q) = subst Clean (sym p) (reached_clean (unstuffed raw))

-- ---- the store by the history

-- this stretch is held, as far as it is read and the store goes, and zero behind
record Holds (raw : List ℕ) (s : State) : Type 0 where
  number : s.rest.stored ≡ length (take store_octets (unstuffed raw).octets)
  octets : s.store ≡ take store_octets (unstuffed raw).octets ++ replicate (store_octets - length (take store_octets (unstuffed raw).octets)) 0

reached_holds : (raw : List ℕ) → Holds raw (reached (unstuffed raw))
unfolding reached
reached_holds raw = go (ltb store_octets (length u.octets)) refl
  where
    u : Unstuffed
    u = unstuffed raw

    go : (t : Bool) → ltb store_octets (length u.octets) ≡ t → Holds raw (reached u)
    go true e = rw e (record { number = refl; octets = refl })
    go false e =
        let all : take store_octets u.octets ≡ u.octets = take_all store_octets u.octets (ltb-false store_octets (length u.octets) e) in
        rw e
        (record {
          number = ap length (sym all);
          octets = ap (λ (l : List ℕ). l ++ replicate (store_octets - length l) 0) (sym all);
        })

stands_as : (h : List Call) (raw : List ℕ) (s r : State) → open_stretch (cut_at_flags h).flags ≡ raw → s ≡ r → Holds raw r
    → StoreAs h s.rest.stored s.store
stands_as h raw s r e p k =
    let j = subst (λ (l : List ℕ). Holds l s) (sym e) (subst (Holds raw) (sym p) k) in
    record { number = j.number; octets = j.octets }

pub stands_holds : (h : List Call) (s : State) → Stands h s → StoreAs h s.rest.stored s.store
unfolding open_stretch unstuffed
stands_holds h s (hunts p q) = stands_as h [] s fresh (ap open_stretch q) p (record { number = refl; octets = refl })
stands_holds h s (reads done room raw p q) =
    stands_as h raw s (reached (unstuffed raw)) (ap open_stretch q ∙ open_last done (segment room raw)) p (reached_holds raw)
