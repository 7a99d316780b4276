-- Each refusal of a stretch exactly when its condition is met. Assumes nothing.
use mathlib.Core.Path.{◌≡◌, refl, sym, ◌∙◌, ap, subst}
use mathlib.Core.Bool.{Bool, true, false, cond}
use mathlib.Core.List.{List, [], ◌∷◌, ◌++◌, map, append_assoc, append-nil}
use mathlib.Core.Logic.Iff
use mathlib.Core.Logic.{◌↔◌}
use Prim.Native.Nat.{ℕ, zero, suc, ◌+◌, ◌*◌, ◌-◌, ◌<◌, ◌≤◌, min}
use native.Mathlib.Omega.{arith}
use lib.Dec.{eqb, ltb}
use lib.ListN.{length, take, drop, get_or, length-append, length-take, take-append-drop}
use borrow.Author.Tests.{ltb-true, ltb-false, lt-ltb, le-ltb, eqb-true, eqb-false, eq-eqb, ne_eqb}
use Rattle.crc_gdl90.specs.Check.{frame_check}
use Rattle.refusals.specs.Numbers as because
use Rattle.ucp_frame.specs.Frame.{flag, escape, escaped, stuffed}
use Rattle.ucp_frame.specs.Stretch.{Ending, whole, escape_last, bad_escape, Unstuffed, unstuffed, Verdict, silent, refused, delivered, store_octets, without_check, check_sent, at_flag, by_ending, judged, verdict}
use Rattle.ucp_frame.proofs.Stuffing.{FlagFree, stuffed_append, stuffed_length_most, stuffed_length_least, escaped_itself}
use Rattle.ucp_frame.proofs.Unstuffing.{Reading, at_end, broken_off, bad, flag_read, escape_read, plain, reading, onward, unstuffed_snoc, unstuffed_stuffed}
use Rattle.ucp_history.specs.History.{Call, cut_at_flags, open_stretch, answer}
use Rattle.ucp_receiver.specs.Answers.{ReceiverAnswer, nothing, refusal, answer_for}
use Rattle.thm_ucp_receiver.specs.Line.{call_of}
use Rattle.thm_ucp_receiver.specs.Promises.{AnswersAs}
use Rattle.thm_ucp_receiver.specs.Refusals.{BadEscapeIn, EscapeLastIn, TooLongIn, TooShortIn, BodyIn, WrongCheckIn, NoRoomIn, RefusesWhen, AnswerRefuses, ReceiverRefusesWhen}
use Rattle.thm_ucp_receiver.proofs.Stretch.{body_of, check_sent_lem, last_two, stuffed_verdict}
use Rattle.thm_ucp_receiver.proofs.Cut.{segment, open_last, cut_last, LastFlag, none, at, last_flag}
use Rattle.thm_ucp_receiver.proofs.Promises.{answers}

-- ---- a stretch in what is read of it and what is not

data Unread : Ending → List ℕ → Type 0 where
  no_more : Unread whole []
  escape_more : Unread escape_last (escape ∷ [])
  bad_more : {y : ℕ} {ys : List ℕ} → (y ≡ 0x5E → ⊥) → (y ≡ 0x5D → ⊥) → Unread bad_escape (escape ∷ y ∷ ys)

record Parted (raw : List ℕ) (u : Unstuffed) : Type 0 where
  unread : List ℕ
  parts : raw ≡ stuffed u.octets ++ unread
  is : Unread u.ending unread

parted : {raw : List ℕ} {u : Unstuffed} → Reading raw u → FlagFree raw → Parted raw u
unfolding stuffed escaped
parted at_end f = record { unread = []; parts = refl; is = no_more }
parted broken_off f = record { unread = escape ∷ []; parts = refl; is = escape_more }
parted (bad {y = y} {ys = ys} h k) f = record { unread = escape ∷ y ∷ ys; parts = refl; is = bad_more h k }
parted (flag_read r) f =
    let p = parted r (λ i. f (suc (suc i))) in
    record { unread = p.unread; parts = ap (λ (l : List ℕ). escape ∷ 0x5E ∷ l) p.parts; is = p.is }
parted (escape_read r) f =
    let p = parted r (λ i. f (suc (suc i))) in
    record { unread = p.unread; parts = ap (λ (l : List ℕ). escape ∷ 0x5D ∷ l) p.parts; is = p.is }
parted (plain {x = x} {u = u} h r) f =
    let p = parted r (λ i. f (suc i)) in
    record {
      unread = p.unread;
      parts =
          ap (λ (l : List ℕ). x ∷ l) p.parts
          ∙ ap (λ (l : List ℕ). (l ++ stuffed u.octets) ++ p.unread) (sym (escaped_itself x (f 0) h));
      is = p.is;
    }

-- ---- the condition that a verdict stands for

abbrev Row : List ℕ → ℕ → ℕ → Type 0
Row raw room zero = ⊥
Row raw room (suc zero) = BadEscapeIn raw
Row raw room (suc (suc zero)) = EscapeLastIn raw
Row raw room (suc (suc (suc zero))) = TooLongIn raw
Row raw room (suc (suc (suc (suc zero)))) = TooShortIn raw
Row raw room (suc (suc (suc (suc (suc zero))))) = WrongCheckIn raw
Row raw room (suc (suc (suc (suc (suc (suc zero)))))) = NoRoomIn raw room
Row raw room (suc (suc (suc (suc (suc (suc (suc n))))))) = ⊥

abbrev Holds : List ℕ → ℕ → Verdict → Type 0
Holds raw room silent = raw ≡ []
Holds raw room (refused number) = Row raw room number
Holds raw room (delivered octets) = Unit

module _ (raw octets : List ℕ) (room : ℕ) (parts : raw ≡ stuffed octets) (most : length octets ≤ store_octets) where
  the_body : 3 ≤ length octets → BodyIn raw (without_check octets) (get_or octets (length octets - 2) 0) (get_or octets (length octets - 1) 0)
  the_body h =
      let split = last_two octets (omega arith) in
      let long : length octets ≡ length (without_check octets) + 2 = ap length split ∙ length-append (without_check octets) _ in
      record { parts = parts ∙ ap stuffed split; size = (omega arith, omega arith) }

  by_room : 3 ≤ length octets → check_sent octets ≡ frame_check (without_check octets) → (t : Bool)
      → ltb room (length (without_check octets)) ≡ t
      → Holds raw room (cond t (refused because.room) (delivered (without_check octets)))
  by_room h c true e =
      record {
        body = without_check octets;
        low = get_or octets (length octets - 2) 0;
        high = get_or octets (length octets - 1) 0;
        is = the_body h;
        right = c;
        short = ltb-true room (length (without_check octets)) e;
      }
  by_room h c false e = tt

  by_check : 3 ≤ length octets → (t : Bool) → eqb (check_sent octets) (frame_check (without_check octets)) ≡ t
      → Holds raw room (cond t (cond (ltb room (length (without_check octets))) (refused because.room) (delivered (without_check octets))) (refused because.wrong_check))
  by_check h true e = by_room h (eqb-true (check_sent octets) _ e) (ltb room (length (without_check octets))) refl
  by_check h false e =
      record {
        body = without_check octets;
        low = get_or octets (length octets - 2) 0;
        high = get_or octets (length octets - 1) 0;
        is = the_body h;
        wrong = eqb-false (check_sent octets) _ e;
      }

  at_flag_holds : 1 ≤ length octets → Holds raw room (at_flag octets room)
  unfolding at_flag
  at_flag_holds some = by_length (ltb (length octets) 3) refl
    where
      by_length : (t : Bool) → ltb (length octets) 3 ≡ t
          → Holds raw room (cond t (refused because.too_short)
          (cond (eqb (check_sent octets) (frame_check (without_check octets)))
          (cond (ltb room (length (without_check octets))) (refused because.room) (delivered (without_check octets))) (refused because.wrong_check)))
      by_length true e = record { read = octets; parts = parts; few = (some, ltb-true (length octets) 3 e) }
      by_length false e =
          by_check (ltb-false (length octets) 3 e) (eqb (check_sent octets) (frame_check (without_check octets))) refl

holds : (raw : List ℕ) (room : ℕ) → FlagFree raw → Holds raw room (verdict raw room)
unfolding verdict judged
holds [] room f = refl
holds (x ∷ xs) room f = by_length (ltb store_octets (length u.octets)) refl
  where
    raw : List ℕ
    raw = x ∷ xs

    u : Unstuffed
    u = unstuffed raw

    p : Parted raw u
    p = parted (reading raw) f

    by_end : (e : Ending) (unread : List ℕ) → Unread e unread → raw ≡ stuffed u.octets ++ unread → length u.octets ≤ store_octets
        → Holds raw room (by_ending e u.octets room)
    by_end _ _ no_more q l =
        let all : raw ≡ stuffed u.octets = q ∙ append-nil (stuffed u.octets) in
        at_flag_holds raw u.octets room all l (omega (arith, ap length all, stuffed_length_most u.octets))
    by_end _ _ escape_more q l = record { read = u.octets; parts = q; first = l }
    by_end _ _ (bad_more {y = y} {ys = ys} h k) q l =
        record { read = u.octets; octet = y; unread = ys; parts = q; bad = (h, k); first = l }

    by_length : (t : Bool) → ltb store_octets (length u.octets) ≡ t
        → Holds raw room (cond t (refused because.too_long) (by_ending u.ending u.octets room))
    by_length true e =
        let n : ℕ = store_octets + 1 in
        let many : min n (length u.octets) ≡ n = omega (arith, ltb-true store_octets (length u.octets) e) in
        record {
          read = take n u.octets;
          unread = stuffed (drop n u.octets) ++ p.unread;
          parts =
              p.parts
              ∙ ap (λ (l : List ℕ). l ++ p.unread)
              (ap stuffed (sym (take-append-drop n u.octets)) ∙ stuffed_append (take n u.octets) (drop n u.octets))
              ∙ append_assoc (stuffed (take n u.octets)) (stuffed (drop n u.octets)) p.unread;
          many = length-take n u.octets ∙ many;
        }
    by_length false e = by_end u.ending p.unread p.is p.parts (ltb-false store_octets (length u.octets) e)

-- ---- a condition that is met decides the verdict

judged_of : (raw : List ℕ) (room : ℕ) → 0 < length raw → verdict raw room ≡ judged (unstuffed raw) room
unfolding verdict
judged_of [] room h = absurd (omega arith)
judged_of (x ∷ xs) room h = refl

snoc_append : (raw : List ℕ) (x : ℕ) (xs : List ℕ) → raw ++ x ∷ xs ≡ (raw ++ x ∷ []) ++ xs
snoc_append raw x xs = sym (append_assoc raw (x ∷ []) xs)

-- octets more leave as many read
cond_least : (n : ℕ) (t : Bool) (u v : Unstuffed) → n ≤ length u.octets → n ≤ length v.octets → n ≤ length (cond {A = Unstuffed} t u v).octets
cond_least n true u v h k = h
cond_least n false u v h k = k

longer : (octets : List ℕ) (x : ℕ) → length octets ≤ length (octets ++ (x ∷ []))
longer octets x = simp length-append (omega arith)

onward_least : (e : Ending) (octets : List ℕ) (x : ℕ) → length octets ≤ length (onward e octets x).octets
onward_least whole octets x = cond_least (length octets) (eqb x escape) _ _ (omega arith) (longer octets x)
onward_least escape_last octets x =
    cond_least (length octets) (eqb x 0x5E) _ _ (longer octets flag)
    (cond_least (length octets) (eqb x 0x5D) _ _ (longer octets escape) (omega arith))
onward_least bad_escape octets x = omega arith

read_least : (unread raw : List ℕ) → length (unstuffed raw).octets ≤ length (unstuffed (raw ++ unread)).octets
read_least [] raw = rw (append-nil raw) (omega arith)
read_least (x ∷ xs) raw =
    let more : length (unstuffed raw).octets ≤ length (unstuffed (raw ++ x ∷ [])).octets =
    rw (unstuffed_snoc raw x) (onward_least (unstuffed raw).ending (unstuffed raw).octets x) in
    rw (snoc_append raw x xs) (omega (arith, more, read_least xs (raw ++ x ∷ [])))

-- behind a bad escape nothing is read
bad_stays : (unread raw read : List ℕ) → unstuffed raw ≡ record { octets = read; ending = bad_escape }
    → unstuffed (raw ++ unread) ≡ record { octets = read; ending = bad_escape }
bad_stays [] raw read e = rw (append-nil raw) e
bad_stays (x ∷ xs) raw read e =
    rw (snoc_append raw x xs) (bad_stays xs (raw ++ x ∷ []) read (unstuffed_snoc raw x ∙ rw e))

escape_last_lem : (read : List ℕ) → unstuffed (stuffed read ++ escape ∷ []) ≡ record { octets = read; ending = escape_last }
escape_last_lem read = unstuffed_snoc (stuffed read) escape ∙ rw (unstuffed_stuffed read)

bad_escape_lem : (read : List ℕ) (octet : ℕ) (unread : List ℕ) → (octet ≡ 0x5E → ⊥) → (octet ≡ 0x5D → ⊥)
    → unstuffed (stuffed read ++ escape ∷ octet ∷ unread) ≡ record { octets = read; ending = bad_escape }
bad_escape_lem read octet unread h k =
    let raw : List ℕ = stuffed read ++ escape ∷ [] in
    rw (snoc_append (stuffed read) escape (octet ∷ unread), snoc_append raw octet unread)
    (bad_stays unread (raw ++ octet ∷ []) read (unstuffed_snoc raw octet ∙ rw (escape_last_lem read, ne_eqb octet 0x5E h, ne_eqb octet 0x5D k)))

some_octets : (xs : List ℕ) (x : ℕ) (ys : List ℕ) → 0 < length (xs ++ x ∷ ys)
some_octets xs x ys = simp length-append (omega arith)

module _ (raw : List ℕ) (room : ℕ) where
  to_1 : BadEscapeIn raw → verdict raw room ≡ refused because.bad_escape
  unfolding judged
  to_1 r =
      rw r.parts
      (judged_of (stuffed r.read ++ escape ∷ r.octet ∷ r.unread) room (some_octets (stuffed r.read) escape (r.octet ∷ r.unread))
      ∙ rw (bad_escape_lem r.read r.octet r.unread r.bad.0 r.bad.1, le-ltb store_octets (length r.read) r.first))

  to_2 : EscapeLastIn raw → verdict raw room ≡ refused because.escape_before_flag
  unfolding judged
  to_2 r =
      rw r.parts
      (judged_of (stuffed r.read ++ escape ∷ []) room (some_octets (stuffed r.read) escape [])
      ∙ rw (escape_last_lem r.read, le-ltb store_octets (length r.read) r.first))

  to_3 : TooLongIn raw → verdict raw room ≡ refused because.too_long
  unfolding judged
  to_3 r =
      let line : List ℕ = stuffed r.read ++ r.unread in
      let read : length (unstuffed (stuffed r.read)).octets ≡ length r.read =
      ap (λ (u : Unstuffed). length u.octets) (unstuffed_stuffed r.read) in
      let long : store_octets < length (unstuffed line).octets =
      omega (arith, read, r.many, read_least r.unread (stuffed r.read)) in
      let some : 0 < length line = simp length-append (omega (arith, r.many, stuffed_length_least r.read)) in
      rw r.parts (judged_of line room some ∙ rw (lt-ltb store_octets (length (unstuffed line).octets) long))

  to_4 : TooShortIn raw → verdict raw room ≡ refused because.too_short
  unfolding at_flag
  to_4 r =
      rw r.parts
      (stuffed_verdict r.read room r.few.0 (omega (arith, r.few.1)) ∙ rw (lt-ltb (length r.read) 3 r.few.1))

  body_judged : (a : List ℕ) (low high : ℕ) → BodyIn raw a low high
      → verdict raw room
      ≡ cond (eqb (low + high * 256) (frame_check a)) (cond (ltb room (length a)) (refused because.room) (delivered a)) (refused because.wrong_check)
  unfolding at_flag
  body_judged a low high b =
      let all : List ℕ = a ++ low ∷ high ∷ [] in
      let long : length all ≡ length a + 2 = length-append a (low ∷ high ∷ []) in
      rw b.parts
      (stuffed_verdict all room (omega (arith, long)) (omega (arith, long, b.size.1))
      ∙ rw (le-ltb (length all) 3 (omega (arith, long, b.size.0)), body_of a low high, check_sent_lem a low high))

  to_5 : WrongCheckIn raw → verdict raw room ≡ refused because.wrong_check
  to_5 r = body_judged r.body r.low r.high r.is ∙ rw (ne_eqb (r.low + r.high * 256) (frame_check r.body) r.wrong)

  to_6 : NoRoomIn raw room → verdict raw room ≡ refused because.room
  to_6 r =
      body_judged r.body r.low r.high r.is
      ∙ rw (eq-eqb (r.low + r.high * 256) (frame_check r.body) r.right, lt-ltb room (length r.body) r.short)

  to_silent : raw ≡ [] → verdict raw room ≡ silent
  unfolding verdict
  to_silent e = rw e

-- ---- the answer

pub stretch_refuses : (raw : List ℕ) (room : ℕ) → FlagFree raw
    → RefusesWhen raw room (λ number. verdict raw room ≡ refused number) (verdict raw room ≡ silent)
stretch_refuses raw room f =
    record {
      refuses1 = (row because.bad_escape, to_1 raw room);
      refuses2 = (row because.escape_before_flag, to_2 raw room);
      refuses3 = (row because.too_long, to_3 raw room);
      refuses4 = (row because.too_short, to_4 raw room);
      refuses5 = (row because.wrong_check, to_5 raw room);
      refuses6 = (row because.room, to_6 raw room);
      silent = (λ e. subst (Holds raw room) e (holds raw room f), to_silent raw room);
    }
  where
    row : (number : ℕ) → verdict raw room ≡ refused number → Row raw room number
    row number e = subst (Holds raw room) e (holds raw room f)

-- the same of what says the same
pub refuses_as : {raw : List ℕ} {room : ℕ} {R S : ℕ → Type 0} {A B : Type 0} → ((number : ℕ) → S number ↔ R number) → B ↔ A
    → RefusesWhen raw room R A → RefusesWhen raw room S B
refuses_as r s w =
    record {
      refuses1 = Iff.trans (r _) w.refuses1;
      refuses2 = Iff.trans (r _) w.refuses2;
      refuses3 = Iff.trans (r _) w.refuses3;
      refuses4 = Iff.trans (r _) w.refuses4;
      refuses5 = Iff.trans (r _) w.refuses5;
      refuses6 = Iff.trans (r _) w.refuses6;
      silent = Iff.trans s w.silent;
    }

refused_of : (v : Verdict) (number : ℕ) → (answer_for v ≡ refusal number) ↔ (v ≡ refused number)
refused_of v number = (go v, ap answer_for)
  where
    go : (v : Verdict) → answer_for v ≡ refusal number → v ≡ refused number
    go silent e = absurd (let z : ◌≡◌ {A = ℕ} 0 1 = cc in omega arith)
    go (refused m) e =
        let same : m ≡ number = cc in
        ap refused same
    go (delivered octets) e = absurd (let z : ◌≡◌ {A = ℕ} 0 1 = cc in omega arith)

silent_of : (v : Verdict) → (answer_for v ≡ nothing) ↔ (v ≡ silent)
silent_of v = (go v, ap answer_for)
  where
    go : (v : Verdict) → answer_for v ≡ nothing → v ≡ silent
    go silent e = refl
    go (refused m) e = absurd (let z : ◌≡◌ {A = ℕ} 0 1 = cc in omega arith)
    go (delivered octets) e = absurd (let z : ◌≡◌ {A = ℕ} 0 1 = cc in omega arith)

pub answer_refuses : (raw : List ℕ) (room : ℕ) → FlagFree raw
    → RefusesWhen raw room (AnswerRefuses (answer_for (verdict raw room))) (answer_for (verdict raw room) ≡ nothing)
answer_refuses raw room f = refuses_as (refused_of (verdict raw room)) (silent_of (verdict raw room)) (stretch_refuses raw room f)

-- the open stretch has no flag in it
pub open_flag_free : (h : List Call) → FlagFree (open_stretch (cut_at_flags h).flags)
unfolding open_stretch
open_flag_free h = go (last_flag h)
  where
    go : LastFlag h → FlagFree (open_stretch (cut_at_flags h).flags)
    go (none q f) = rw q (λ i e. omega arith)
    go (at earlier raw p f) =
        let l = cut_last h earlier raw p f in
        rw (ap open_stretch l.parts ∙ open_last l.done (segment l.room raw)) f

pub receiver_refuses_when : ReceiverRefusesWhen
unfolding answer
receiver_refuses_when before after o l =
    let stretch : List ℕ = open_stretch (cut_at_flags (map call_of before)).flags in
    let a : AnswersAs (answer (map call_of before) (call_of o)) o = answers before after o l in (
      λ e. subst (λ (given : ReceiverAnswer). RefusesWhen stretch (length o.output) (AnswerRefuses given) (given ≡ nothing))
          (sym (rw (eq-eqb o.octet flag e) at a.tells)) (answer_refuses stretch (length o.output) (open_flag_free (map call_of before))),
      λ n. rw (ne_eqb o.octet flag n) at a.tells,
    )
