-- A line and its frames: what is delivered stands on the line as its frame, a frame is delivered, and one with a wrong check
-- is refused, whatever came before. Assumes nothing.
use mathlib.Core.Path.{◌≡◌, refl, sym, ◌∙◌, ap, ap₂}
use mathlib.Core.Bool.{Bool, true, false, cond}
use mathlib.Core.List.{List, [], ◌∷◌, ◌++◌, map, map-append, append_assoc, append_cancel_left, head-eq_of_cons-eq}
use Prim.Native.Nat.{ℕ, suc, ◌+◌}
use native.Mathlib.Omega.{arith}
use lib.Dec.{eqb}
use lib.ListN.{length, take, drop, get_or}
use lib.Seq.{get_or-append-add, take-append_seam}
use borrow.Author.Tests.{eqb-true, eq-eqb, ne_eqb}
use Rattle.crc_polynomial.specs.Polynomial.{Octets}
use Rattle.crc_gdl90.specs.Check.{frame_check, frame_check_octets}
use Rattle.ucp_frame.specs.Frame.{flag, stuffed, frame}
use Rattle.ucp_frame.specs.Stretch.{Verdict, silent, refused, delivered, verdict}
use Rattle.ucp_frame.proofs.Stuffing.{FlagFree, stuffed_flag_free}
use Rattle.ucp_frame.proofs.Frame.{append_injective}
use Rattle.ucp_frame.proofs.Unstuffing.{octets_cons}
use Rattle.ucp_history.specs.History.{Call, open_stretch, answer}
use Rattle.ucp_receiver.specs.declared.Record.{Record}
use Rattle.ucp_receiver.specs.Answers.{body, answer_for, output_at_flag}
use Rattle.ucp_receiver.specs.Octet.{no_octets, fresh_record}
use Rattle.thm_ucp_receiver.specs.Line.{Observed, call_of, Runs}
use Rattle.thm_ucp_receiver.specs.Promises.{AnswersAs, EndsIn, BodyLength, HistoryDeliversFrame, HistoryFrameDelivered, frame_answer, PutOutIsFrame, FrameIsPutOut, carrying, WrongCheckRefused}
use Rattle.thm_ucp_receiver.proofs.Stretch.{delivered_answers, carried, is_frame}
use Rattle.thm_ucp_receiver.proofs.Cut.{octets_of, segment, open_last, cut_last, LastFlag, none, at, last_flag}
use Rattle.thm_ucp_receiver.proofs.Promises.{answers}

-- ---- the stretch that a flag closes

closes : (before : List Call) (c : Call) (earlier raw : List ℕ) → octets_of before ≡ earlier ++ flag ∷ raw → FlagFree raw
    → c.octet ≡ flag → answer before c ≡ verdict raw c.room
unfolding answer
closes before c earlier raw p f e =
    let l = cut_last before earlier raw p f in
    rw (eq-eqb c.octet flag e)
    (ap (λ (octets : List ℕ). verdict octets c.room) (ap open_stretch l.parts ∙ open_last l.done (segment l.room raw)))

last_octet : (before : List Call) (c : Call) → octets_of (before ++ (c ∷ [])) ≡ octets_of before ++ (c.octet ∷ [])
last_octet before c = map-append (λ (d : Call). d.octet) before (c ∷ [])

-- ---- what is delivered is a frame

octets_after : (earlier raw line : List ℕ) → line ≡ earlier ++ flag ∷ raw → Octets line → Octets raw
octets_after earlier raw line p o i =
    let e : get_or line (length earlier + suc i) 0 ≡ get_or raw i 0 =
    ap (λ (l : List ℕ). get_or l (length earlier + suc i) 0) p ∙ get_or-append-add earlier (flag ∷ raw) (suc i) 0 in
    omega (arith, o (length earlier + suc i))

pub history_delivers_frame : HistoryDeliversFrame
unfolding answer open_stretch verdict
history_delivers_frame before c b o = by_octet (eqb c.octet flag) refl
  where
    by_last : c.octet ≡ flag → LastFlag before → answer before c ≡ delivered b
        → EndsIn (frame b) (before ++ (c ∷ [])) × BodyLength b
    by_last e (none q f) d = absurd (delivered_answers b (sym d ∙ rw (eq-eqb c.octet flag e, q)))
    by_last e (at earlier raw p f) d =
        let i = is_frame raw b c.room (octets_after earlier raw _ p o) f (sym (closes before c earlier raw p f e) ∙ d) in (
          record {
            earlier = earlier;
            parts =
                last_octet before c ∙ ap₂ (λ (l : List ℕ) (x : ℕ). l ++ (x ∷ [])) p e
                ∙ append_assoc earlier (flag ∷ raw) (flag ∷ []) ∙ ap (λ (l : List ℕ). earlier ++ l) i.between;
          },
          i.size,
        )

    by_octet : (t : Bool) → eqb c.octet flag ≡ t → answer before c ≡ delivered b
        → EndsIn (frame b) (before ++ (c ∷ [])) × BodyLength b
    by_octet true e d = by_last (eqb-true c.octet flag e) (last_flag before) d
    by_octet false e d = absurd (delivered_answers b (sym d ∙ rw e))

-- every octet of a line is one
line_octets : (before os : List Observed) (receiver : Record) (store : List ℕ) → Runs receiver store (before ++ os)
    → Octets (octets_of (map call_of before))
line_octets [] os receiver store r = λ i. omega arith
line_octets (o ∷ before) os receiver store r =
    octets_cons o.octet (octets_of (map call_of before)) r.0
    (line_octets before os o.given.receiver o.store_after r.2)

pub put_out_is_frame : PutOutIsFrame
put_out_is_frame before after o octets l k = go (answer calls (call_of o)) refl (sym a.tells ∙ k) a.puts
  where
    calls : List Call
    calls = map call_of before

    a : AnswersAs (answer calls (call_of o)) o
    a = answers before after o l

    go : (v : Verdict) → answer calls (call_of o) ≡ v → answer_for v ≡ body octets → o.output_then ≡ output_at_flag v o.output
        → EndsIn (frame (take octets o.output_then)) (calls ++ (call_of o ∷ [])) × BodyLength (take octets o.output_then)
    go silent e t p = absurd (let z : ◌≡◌ {A = ℕ} 0 1 = cc in omega arith)
    go (refused number) e t p = absurd (let z : ◌≡◌ {A = ℕ} 0 1 = cc in omega arith)
    go (delivered b) e t p =
        let n : octets ≡ length b = cc in
        let w : take octets o.output_then ≡ b = ap₂ take n p ∙ take-append_seam b (drop (length b) o.output) in
        rw w (history_delivers_frame calls (call_of o) b (line_octets before (o ∷ after) fresh_record no_octets l) e)

-- ---- the frame at the end of a line

last_answer : (before : List Call) (c : Call) (a b : List ℕ) → BodyLength a → EndsIn (carrying a b) (before ++ (c ∷ []))
    → answer before c ≡ cond (eqb (frame_check b) (frame_check a)) (frame_answer a c.room) (refused 5)
last_answer before c a b k ends =
    let raw : List ℕ = stuffed (a ++ frame_check_octets b) in
    let e : octets_of before ++ (c.octet ∷ []) ≡ ends.earlier ++ flag ∷ raw ++ (flag ∷ []) =
    sym (last_octet before c) ∙ ends.parts ∙ sym (append_assoc ends.earlier (flag ∷ raw) (flag ∷ [])) in
    let p : octets_of before ≡ ends.earlier ++ flag ∷ raw = append_injective _ _ (c.octet ∷ []) (flag ∷ []) refl e in
    let x : c.octet ≡ flag =
    head-eq_of_cons-eq (append_cancel_left (octets_of before) _ _ (e ∙ ap (λ (l : List ℕ). l ++ (flag ∷ [])) (sym p))) in
    closes before c ends.earlier raw p (stuffed_flag_free _) x ∙ carried a b c.room k

pub history_frame_delivered : HistoryFrameDelivered
unfolding frame
history_frame_delivered before c b k ends = last_answer before c b b k ends ∙ rw (eq-eqb (frame_check b) (frame_check b) refl)

pub frame_is_put_out : FrameIsPutOut
frame_is_put_out before after o b l k ends =
    rw (← (history_frame_delivered (map call_of before) (call_of o) b k ends)) (answers before after o l)

pub wrong_check_refused : WrongCheckRefused
wrong_check_refused a b k n before o l ends =
    let e : answer (map call_of before) (call_of o) ≡ refused 5 =
    last_answer (map call_of before) (call_of o) a b k ends ∙ rw (ne_eqb (frame_check b) (frame_check a) (λ q. n (sym q))) in
    (answers before [] o l).tells ∙ ap answer_for e
