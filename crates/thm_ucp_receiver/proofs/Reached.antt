-- The record that an open stretch leads to: it goes on octet by octet as the receiver's step does, a flag there is answered
-- as the stretch is judged, and the store is zero beyond what it holds. Assumes nothing.
use mathlib.Core.Path.{◌≡◌, refl, sym, ◌∙◌, ap}
use mathlib.Core.Bool.{Bool, true, false, cond}
use mathlib.Core.List.{List, [], ◌∷◌, ◌++◌, append_assoc, cons≢nil}
use Prim.Native.Nat.{ℕ, suc, ◌+◌, ◌-◌, ◌<◌, ◌≤◌}
use native.Mathlib.Omega.{arith}
use lib.Dec.{eqb, ltb}
use lib.ListN.{length, take, set, replicate, length-append}
use lib.Seq.{take_at, take-append-le, take-append_seam, set-append_seam}
use borrow.Author.Tests.{ltb-true, ltb-false, lt-ltb, le-ltb, ne_eqb}
use Rattle.ucp_frame.specs.Frame.{flag, escape}
use Rattle.ucp_frame.specs.Stretch.{Ending, whole, escape_last, bad_escape, Unstuffed, unstuffed, Verdict, store_octets, by_ending, judged, verdict}
use Rattle.ucp_frame.proofs.Unstuffing.{onward, unstuffed_snoc, unstuffed_nothing}
use Rattle.ucp_receiver.specs.declared.Phase.{Phase}
use Rattle.ucp_receiver.specs.declared.Phase.TheVariants.{Reading, Escape, BadEscape, TooLong}
use Rattle.ucp_receiver.specs.Octet.{State, storing, advanced_in, closed_in}

-- these octets held, and zero beyond
abbrev pub holding : Phase → List ℕ → State
holding p held =
    record { rest = record { phase = p; stored = length held }; store = held ++ replicate (store_octets - length held) 0 }

abbrev pub phase_at : Ending → Phase
phase_at whole = Reading
phase_at escape_last = Escape
phase_at bad_escape = BadEscape

unfoldable pub reached : Unstuffed → State
reached u =
    cond (ltb store_octets (length u.octets))
    (holding TooLong (take store_octets u.octets))
    (holding (phase_at u.ending) u.octets)

over : (u : Unstuffed) → store_octets < length u.octets → reached u ≡ holding TooLong (take store_octets u.octets)
unfolding reached
over u h = rw (lt-ltb store_octets (length u.octets) h)

within : (u : Unstuffed) → length u.octets ≤ store_octets → reached u ≡ holding (phase_at u.ending) u.octets
unfolding reached
within u h = rw (le-ltb store_octets (length u.octets) h)

-- ---- one octet more

over_more : (octets : List ℕ) (x : ℕ) → store_octets < length octets
    → holding TooLong (take store_octets octets) ≡ reached (record { octets = octets ++ (x ∷ []); ending = whole })
over_more octets x h =
    ap (holding TooLong) (sym (take-append-le store_octets octets (x ∷ []) (omega arith)))
    ∙ sym (over _ (simp length-append (omega arith)))

room_left : (held : List ℕ) (x : ℕ) → length held < store_octets
    → set (held ++ replicate (store_octets - length held) 0) (length held) x
    ≡ held ++ (x ∷ []) ++ replicate (store_octets - length (held ++ (x ∷ []))) 0
room_left held x h =
    let n : store_octets - length held ≡ suc (store_octets - length (held ++ (x ∷ []))) = simp length-append (omega arith) in
    rw n (set-append_seam held 0 (replicate (store_octets - length (held ++ (x ∷ []))) 0) x
    ∙ sym (append_assoc held (x ∷ []) (replicate (store_octets - length (held ++ (x ∷ []))) 0)))

stored_more : (p : Phase) (held : List ℕ) (x : ℕ) → length held ≤ store_octets
    → storing x (holding p held) ≡ reached (record { octets = held ++ (x ∷ []); ending = whole })
unfolding storing
stored_more p held x h = go (ltb (length held) store_octets) refl
  where
    l : length held + 1 ≡ length (held ++ (x ∷ []))
    l = simp length-append

    go : (t : Bool) → ltb (length held) store_octets ≡ t
        → storing x (holding p held) ≡ reached (record { octets = held ++ (x ∷ []); ending = whole })
    go true e =
        let m : length held < store_octets = ltb-true (length held) store_octets e in
        rw e ((λ i. record { rest = record { phase = Reading; stored = l i }; store = room_left held x m i })
        ∙ sym (within _ (omega (arith, l))))
    go false e =
        let m : store_octets ≤ length held = ltb-false (length held) store_octets e in
        rw e (ap (holding TooLong) (sym (take_at held (x ∷ []) store_octets (omega arith))) ∙ sym (over _ (omega (arith, l))))

abbrev pub advanced : ℕ → State → State
advanced x s = advanced_in s.rest.phase x s

either : (t : Bool) (u v : Unstuffed) {s r : State} → s ≡ reached u → r ≡ reached v → cond t s r ≡ reached (cond t u v)
either true u v m n = m
either false u v m n = n

ignored : (t : Bool) (u v : Unstuffed) {s : State} → s ≡ reached u → s ≡ reached v → s ≡ reached (cond t u v)
ignored true u v m n = m
ignored false u v m n = n

too_long : (e : Ending) (octets : List ℕ) (x : ℕ) → store_octets < length octets
    → holding TooLong (take store_octets octets) ≡ reached (onward e octets x)
too_long whole octets x h = ignored (eqb x escape) _ _ (sym (over _ h)) (over_more octets x h)
too_long escape_last octets x h =
    ignored (eqb x 0x5E) _ _ (over_more octets flag h) (ignored (eqb x 0x5D) _ _ (over_more octets escape h) (sym (over _ h)))
too_long bad_escape octets x h = sym (over _ h)

going_on : (e : Ending) (octets : List ℕ) (x : ℕ) → length octets ≤ store_octets
    → advanced x (holding (phase_at e) octets) ≡ reached (onward e octets x)
going_on whole octets x h = either (eqb x escape) _ _ (sym (within _ h)) (stored_more Reading octets x h)
going_on escape_last octets x h =
    either (eqb x 0x5E) _ _ (stored_more Escape octets flag h)
    (either (eqb x 0x5D) _ _ (stored_more Escape octets escape h) (sym (within _ h)))
going_on bad_escape octets x h = sym (within _ h)

pub reached_more : (raw : List ℕ) (x : ℕ) → advanced x (reached (unstuffed raw)) ≡ reached (unstuffed (raw ++ (x ∷ [])))
reached_more raw x = go (ltb store_octets (length u.octets)) refl ∙ ap reached (sym (unstuffed_snoc raw x))
  where
    u : Unstuffed
    u = unstuffed raw

    go : (t : Bool) → ltb store_octets (length u.octets) ≡ t
        → advanced x (reached u) ≡ reached (onward u.ending u.octets x)
    go true e =
        let h : store_octets < length u.octets = ltb-true store_octets (length u.octets) e in
        ap (advanced x) (over u h) ∙ too_long u.ending u.octets x h
    go false e =
        let h : length u.octets ≤ store_octets = ltb-false store_octets (length u.octets) e in
        ap (advanced x) (within u h) ∙ going_on u.ending u.octets x h

-- ---- a flag

abbrev pub closed : ℕ → State → Verdict
closed room s = closed_in s.rest.phase s room

closed_judged : (u : Unstuffed) (room : ℕ) → (u.ending ≡ whole → length u.octets ≡ 0 → ⊥)
    → closed room (reached u) ≡ judged u room
unfolding judged
closed_judged u room some = go (ltb store_octets (length u.octets)) refl
  where
    by_ending_lem : (e : Ending) → u.ending ≡ e → length u.octets ≤ store_octets
        → closed room (holding (phase_at e) u.octets) ≡ by_ending e u.octets room
    by_ending_lem whole k h =
        rw (
          ne_eqb (length u.octets) 0 (some k),
          le-ltb store_octets (length u.octets) h,
          take-append_seam u.octets (replicate (store_octets - length u.octets) 0),
        )
    by_ending_lem escape_last k h = refl
    by_ending_lem bad_escape k h = refl

    go : (t : Bool) → ltb store_octets (length u.octets) ≡ t → closed room (reached u) ≡ judged u room
    go true e = ap (closed room) (over u (ltb-true store_octets (length u.octets) e)) ∙ rw e
    go false e =
        let h : length u.octets ≤ store_octets = ltb-false store_octets (length u.octets) e in
        ap (closed room) (within u h) ∙ rw e (by_ending_lem u.ending refl h)

pub reached_closed : (raw : List ℕ) (room : ℕ) → closed room (reached (unstuffed raw)) ≡ verdict raw room
unfolding verdict reached unstuffed
reached_closed [] room = refl
reached_closed (x ∷ xs) room =
    closed_judged (unstuffed (x ∷ xs)) room (λ e z. cons≢nil (unstuffed_nothing (x ∷ xs) e z))
