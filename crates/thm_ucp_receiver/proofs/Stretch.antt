-- What a stretch is judged to be: one that carries a body with a check is judged by that check, and one that is delivered
-- stands between its flags as the frame of its body. Assumes nothing.
use mathlib.Core.Path.{◌≡◌, refl, sym, ◌∙◌, ap, ap₂}
use mathlib.Core.Bool.{Bool, true, false, cond}
use mathlib.Core.List.{List, [], ◌∷◌, ◌++◌}
use Prim.Native.Nat.{ℕ, suc, ◌+◌, ◌*◌, ◌-◌, ◌/◌, ◌%◌, ◌<◌, ◌≤◌}
use native.Mathlib.Omega.{arith}
use native.Mathlib.Nat.{mod-add-div'}
use lib.Dec.{eqb, ltb}
use lib.ListN.{length, drop, get_or, length-append, take-append-drop, drop_of_length-le}
use lib.Seq.{take_at, get_or_at, get_or-append-add, drop-cons}
use borrow.Author.Tests.{ltb-false, le-ltb, eqb-true}
use Rattle.crc_polynomial.specs.Polynomial.{Octets}
use Rattle.crc_gdl90.specs.Check.{frame_check, frame_check_octets}
use Rattle.ucp_frame.specs.Frame.{flag, stuffed, frame}
use Rattle.ucp_frame.specs.Stretch.{Ending, whole, escape_last, bad_escape, Unstuffed, unstuffed, Verdict, silent, refused, delivered, store_octets, without_check, check_sent, at_flag, by_ending, judged, verdict}
use Rattle.ucp_frame.proofs.Stuffing.{FlagFree}
use Rattle.ucp_frame.proofs.Unstuffing.{unstuffed_stuffed, stuffed_unstuffed, unstuffed_octets}
use Rattle.thm_ucp_receiver.specs.Promises.{BodyLength, frame_answer}

-- ---- a stretch that holds an octet is answered

either_answers : (t : Bool) {v w : Verdict} → (v ≡ silent → ⊥) → (w ≡ silent → ⊥) → cond t v w ≡ silent → ⊥
either_answers true p q = p
either_answers false p q = q

pub refused_answers : (number : ℕ) → refused number ≡ silent → ⊥
refused_answers number e = let z : ◌≡◌ {A = ℕ} 0 1 = cc in omega arith

pub delivered_answers : (body : List ℕ) → delivered body ≡ silent → ⊥
delivered_answers body e = let z : ◌≡◌ {A = ℕ} 0 1 = cc in omega arith

judged_answers : (u : Unstuffed) (room : ℕ) → judged u room ≡ silent → ⊥
unfolding judged at_flag
judged_answers u room = either_answers (ltb store_octets (length u.octets)) (refused_answers 3) (by_ending_lem u.ending)
  where
    by_ending_lem : (e : Ending) → by_ending e u.octets room ≡ silent → ⊥
    by_ending_lem bad_escape = refused_answers 1
    by_ending_lem escape_last = refused_answers 2
    by_ending_lem whole =
        either_answers (ltb (length u.octets) 3) (refused_answers 4)
        (either_answers (eqb (check_sent u.octets) (frame_check (without_check u.octets)))
        (either_answers (ltb room (length (without_check u.octets))) (refused_answers 6) (delivered_answers (without_check u.octets)))
        (refused_answers 5))

pub verdict_answers : (x : ℕ) (xs : List ℕ) (room : ℕ) → verdict (x ∷ xs) room ≡ silent → ⊥
unfolding verdict
verdict_answers x xs = judged_answers (unstuffed (x ∷ xs))

-- ---- a body and two octets of a check

pub body_of : (a : List ℕ) (low high : ℕ) → without_check (a ++ (low ∷ high ∷ [])) ≡ a
body_of a low high =
    let l : length a ≡ length (a ++ (low ∷ high ∷ [])) - 2 = simp length-append (omega arith) in
    take_at a (low ∷ high ∷ []) _ l

pub check_sent_lem : (a : List ℕ) (low high : ℕ) → check_sent (a ++ (low ∷ high ∷ [])) ≡ low + high * 256
check_sent_lem a low high =
    let l : length a ≡ length (a ++ (low ∷ high ∷ [])) - 2 = simp length-append (omega arith) in
    let n : length (a ++ (low ∷ high ∷ [])) - 1 ≡ length a + 1 = simp length-append (omega arith) in
    ap₂ (λ (x y : ℕ). x + y * 256)
    (get_or_at a low (high ∷ []) 0 _ l)
    (ap (λ (i : ℕ). get_or (a ++ (low ∷ high ∷ [])) i 0) n ∙ get_or-append-add a (low ∷ high ∷ []) 1 0)

-- a body with another's check
at_flag_lem : (a b : List ℕ) (room : ℕ) → 1 ≤ length a
    → at_flag (a ++ frame_check_octets b) room
    ≡ cond (eqb (frame_check b) (frame_check a)) (frame_answer a room) (refused 5)
unfolding at_flag
at_flag_lem a b room h =
    rw (
      le-ltb (length (a ++ frame_check_octets b)) 3 (simp length-append (omega arith)),
      body_of a (frame_check b % 256) (frame_check b / 256),
      check_sent_lem a (frame_check b % 256) (frame_check b / 256),
      mod-add-div' (frame_check b) 256,
    )

verdict_judged : (raw : List ℕ) (room : ℕ) → (length (unstuffed raw).octets ≡ 0 → ⊥)
    → verdict raw room ≡ judged (unstuffed raw) room
unfolding verdict unstuffed
verdict_judged [] room h = absurd (h refl)
verdict_judged (x ∷ xs) room h = refl

pub stuffed_verdict : (xs : List ℕ) (room : ℕ) → 1 ≤ length xs → length xs ≤ store_octets → verdict (stuffed xs) room ≡ at_flag xs room
unfolding judged
stuffed_verdict xs room h k =
    let l : length (unstuffed (stuffed xs)).octets ≡ length xs =
    ap (λ (u : Unstuffed). length u.octets) (unstuffed_stuffed xs) in
    verdict_judged (stuffed xs) room (λ (z : length (unstuffed (stuffed xs)).octets ≡ 0). omega arith)
    ∙ rw (unstuffed_stuffed xs, le-ltb store_octets (length xs) k)

-- the stretch that carries a body with another's check
pub carried : (a b : List ℕ) (room : ℕ) → BodyLength a
    → verdict (stuffed (a ++ frame_check_octets b)) room
    ≡ cond (eqb (frame_check b) (frame_check a)) (frame_answer a room) (refused 5)
carried a b room k =
    stuffed_verdict (a ++ frame_check_octets b) room (simp length-append (omega arith)) (simp length-append (omega arith))
    ∙ at_flag_lem a b room k.least

-- ---- what is delivered

pub last_two : (l : List ℕ) → 2 ≤ length l → l ≡ without_check l ++ (get_or l (length l - 2) 0 ∷ get_or l (length l - 1) 0 ∷ [])
last_two l h =
    let i : ℕ = length l - 2 in
    let n : suc i ≡ length l - 1 = omega arith in
    sym (take-append-drop i l)
    ∙ ap (λ (r : List ℕ). without_check l ++ r)
    (drop-cons l i 0 (omega arith)
    ∙ ap (λ (r : List ℕ). get_or l i 0 ∷ r)
    (ap (λ (j : ℕ). drop j l) n ∙ drop-cons l (length l - 1) 0 (omega arith)
    ∙ ap (λ (r : List ℕ). get_or l (length l - 1) 0 ∷ r) (drop_of_length-le l {i = suc (length l - 1)} (omega arith))))

digits : (low high c : ℕ) → low < 256 → low + high * 256 ≡ c → (low ≡ c % 256) × (high ≡ c / 256)
digits low high c h e = omega arith

not_delivered : (number : ℕ) (body : List ℕ) → refused number ≡ delivered body → ⊥
not_delivered number body e = let z : ◌≡◌ {A = ℕ} 0 1 = cc in omega arith

record Checked (octets body : List ℕ) : Type 0 where
  parts : octets ≡ body ++ frame_check_octets body
  least : 3 ≤ length octets

checked : (octets body : List ℕ) (room : ℕ) → Octets octets → at_flag octets room ≡ delivered body → Checked octets body
unfolding at_flag
checked octets body room o = by_length (ltb (length octets) 3) refl
  where
    by_room : (t : Bool) → 3 ≤ length octets → check_sent octets ≡ frame_check (without_check octets)
        → cond t (refused 6) (delivered (without_check octets)) ≡ delivered body → Checked octets body
    by_room true l k e = absurd (not_delivered 6 body e)
    by_room false l k e =
        let b : without_check octets ≡ body = cc in
        let d = digits _ _ _ (o (length octets - 2)) k in
        record {
          parts =
              last_two octets (omega arith)
              ∙ ap₂ (λ (x y : ℕ). without_check octets ++ (x ∷ y ∷ [])) d.0 d.1
              ∙ ap (λ (a : List ℕ). a ++ frame_check_octets a) b;
          least = l;
        }

    by_check : (t : Bool) → 3 ≤ length octets → eqb (check_sent octets) (frame_check (without_check octets)) ≡ t
        → cond t (cond (ltb room (length (without_check octets))) (refused 6) (delivered (without_check octets))) (refused 5) ≡ delivered body
        → Checked octets body
    by_check true l k e = by_room (ltb room (length (without_check octets))) l (eqb-true (check_sent octets) _ k) e
    by_check false l k e = absurd (not_delivered 5 body e)

    by_length : (t : Bool) → ltb (length octets) 3 ≡ t
        → cond t (refused 4)
        (cond (eqb (check_sent octets) (frame_check (without_check octets)))
        (cond (ltb room (length (without_check octets))) (refused 6) (delivered (without_check octets))) (refused 5)) ≡ delivered body
        → Checked octets body
    by_length true k e = absurd (not_delivered 4 body e)
    by_length false k e = by_check (eqb (check_sent octets) (frame_check (without_check octets))) (ltb-false (length octets) 3 k) refl e

-- a reading that is delivered
record Accepted (u : Unstuffed) (body : List ℕ) : Type 0 where
  all : u.ending ≡ whole
  most : length u.octets ≤ store_octets
  check : Checked u.octets body

accepted : (u : Unstuffed) (body : List ℕ) (room : ℕ) → Octets u.octets → judged u room ≡ delivered body → Accepted u body
unfolding judged
accepted u body room o = by_length (ltb store_octets (length u.octets)) refl
  where
    by_end : (e : Ending) → u.ending ≡ e → length u.octets ≤ store_octets → by_ending e u.octets room ≡ delivered body
        → Accepted u body
    by_end whole k l e = record { all = k; most = l; check = checked u.octets body room o e }
    by_end escape_last k l e = absurd (not_delivered 2 body e)
    by_end bad_escape k l e = absurd (not_delivered 1 body e)

    by_length : (t : Bool) → ltb store_octets (length u.octets) ≡ t
        → cond t (refused 3) (by_ending u.ending u.octets room) ≡ delivered body → Accepted u body
    by_length true k e = absurd (not_delivered 3 body e)
    by_length false k e = by_end u.ending refl (ltb-false store_octets (length u.octets) k) e

-- a stretch that is delivered
pub record IsFrame (raw body : List ℕ) : Type 0 where
  pub between : flag ∷ raw ++ (flag ∷ []) ≡ frame body
  pub size : BodyLength body

pub is_frame : (raw body : List ℕ) (room : ℕ) → Octets raw → FlagFree raw → verdict raw room ≡ delivered body → IsFrame raw body
unfolding verdict frame
is_frame [] body room o f e = absurd (delivered_answers body (sym e))
is_frame (x ∷ xs) body room o f e =
    let a = accepted (unstuffed (x ∷ xs)) body room (unstuffed_octets (x ∷ xs) o) e in
    let s : stuffed (body ++ frame_check_octets body) ≡ x ∷ xs =
    ap stuffed (sym a.check.parts) ∙ stuffed_unstuffed (x ∷ xs) f a.all in
    let l : length (unstuffed (x ∷ xs)).octets ≡ length body + 2 =
    ap length a.check.parts ∙ length-append body (frame_check_octets body) in
    record {
      between = ap (λ (r : List ℕ). flag ∷ r ++ (flag ∷ [])) (sym s);
      size = record { least = omega (arith, a.check.least); most = omega (arith, a.most) };
    }
