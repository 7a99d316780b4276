-- A linked line is a line in numbers, and what holds of lines is carried over. Assumes nothing.
use mathlib.Core.Path.{◌≡◌, refl, sym, ap, subst, ◌∙◌}
use mathlib.Core.List.{List, [], ◌∷◌, ◌++◌, map, map-append, append_assoc}
use Prim.Native.Nat.{ℕ, ◌≤◌}
use native.Mathlib.Omega.{arith}
use lib.ListN.{length, get_or, take}
use Rattle.refusals.specs.Numbers as because
use Rattle.ucp_frame.specs.Frame.{frame}
use Rattle.ucp_frame.specs.Stretch.{Verdict, silent, refused, delivered}
use Rattle.ucp_history.specs.History.{Call, cut_at_flags, open_stretch, answer}
use Rattle.ucp_receiver.specs.declared.Record.{Record}
use Rattle.ucp_receiver.specs.declared.Rest.{Rest}
use Rattle.ucp_receiver.specs.Answers.{Answer, refusal, receiver_answer, answer_for}
use Rattle.ucp_receiver.specs.Octet.{fresh_record, no_octets, Receives}
use Rattle.crc_gdl90_strength.proofs.Caught.{strength}
use Rattle.c_ucp_receiver.specs.Numbers.{phase_number, record_in, record_numbers, answer_in, kind_told, value_told, answer_kind, answer_value, OwnNumbers}
use Rattle.c_ucp_receiver.proofs.Numbers.{record_back, answer_back, receives}
use Rattle.thm_ucp_receiver.specs.Line.{Observed, call_of, Runs, Line}
use Rattle.thm_ucp_receiver.specs.Promises.{AnswersAs, CountsAs, StoreAs, put_out, Seen, seen, EndsIn, BodyLength, carrying}
use Rattle.thm_ucp_receiver.proofs.Promises.{answers, stretch_is_answered, counts, store_by_history, flag_clears, later_only}
use Rattle.thm_ucp_receiver.proofs.Frames.{put_out_is_frame, frame_is_put_out, wrong_check_refused}
use Rattle.thm_c_ucp.specs.Receiver.{LinkedCall, LinkedRuns, LinkedLine, in_numbers, LinkedLines, linked_call_of, LinkedAnswersAs, LinkedAnswersByHistory, LinkedStretchIsAnswered, LinkedCountsByHistory, LinkedStoreByHistory, LinkedFlagClears, LinkedSeen, linked_seen, LinkedLaterOnly, LinkedPutOutIsFrame, LinkedFrameIsPutOut, LinkedReceiverLists}

-- ---- the calls that the numbers stand for

abbrev observed_in : LinkedCall → Observed
observed_in c =
    record {
      octet = c.octet;
      output = c.output;
      given = record { receiver = record_in c.line_after; answer = answer_in c.kind c.value };
      store_after = c.store_after;
      output_then = c.output_then;
    }

runs_in : (store line : List ℕ) (cs : List LinkedCall) → LinkedRuns store line cs → Runs (record_in line) store (map observed_in cs)
runs_in store line [] r = tt
runs_in store line (c ∷ cs) r = (r.0.0, r.0.1.received, runs_in c.store_after c.line_after cs r.1)

line_in : (cs : List LinkedCall) → LinkedLine cs → Line (map observed_in cs)
line_in cs l =
    subst (λ (store : List ℕ). Runs fresh_record store (map observed_in cs)) l.starts.0
    (subst (λ (receiver : Record). Runs receiver l.store (map observed_in cs)) (ap record_in l.starts.1)
    (runs_in l.store l.line cs l.runs))

numbers_back : (c : LinkedCall) → OwnNumbers c.line_after c.kind c.value → in_numbers (observed_in c) ≡ c
numbers_back c own =
    λ i.
    record {
      octet = c.octet;
      output = c.output;
      kind = sym own.kind i;
      value = sym own.value i;
      store_after = c.store_after;
      line_after = sym own.line i;
      output_then = c.output_then;
    }

same_numbers : (store line : List ℕ) (cs : List LinkedCall) → LinkedRuns store line cs → map in_numbers (map observed_in cs) ≡ cs
same_numbers store line [] r = refl
same_numbers store line (c ∷ cs) r =
    λ i. numbers_back c r.0.1.written i ∷ same_numbers c.store_after c.line_after cs r.1 i

-- ---- a line in numbers

numbered : (receiver : Record) (store line : List ℕ) (os : List Observed) → record_in line ≡ receiver → Runs receiver store os
    → LinkedRuns store line (map in_numbers os)
numbered receiver store line [] e r = tt
numbered receiver store line (o ∷ os) e r = (
  (
    r.0,
    receives (record_numbers o.given.receiver) (answer_kind o.given.answer) (answer_value o.given.answer) o.given.receiver
        o.given.answer refl refl refl line store o.octet o.output o.store_after o.output_then
        (subst (λ (k : Record). Receives k store o.octet o.output o.given o.store_after o.output_then) (sym e) r.1),
  ),
  numbered o.given.receiver o.store_after (record_numbers o.given.receiver) os (record_back o.given.receiver) r.2,
)

pub linked_lines : LinkedLines
linked_lines =
    record {
      is_line = λ cs l.
          record { observed = map observed_in cs; line = line_in cs l; same = same_numbers l.store l.line cs l.runs };
      of_line = λ os l.
          record {
            store = no_octets;
            line = record_numbers fresh_record;
            starts = (refl, refl);
            runs = numbered fresh_record no_octets (record_numbers fresh_record) os refl l;
          };
    }

-- ---- what holds of a line

own_numbers : (before after : List LinkedCall) (c : LinkedCall) (store line : List ℕ) → LinkedRuns store line (before ++ c ∷ after)
    → OwnNumbers c.line_after c.kind c.value
own_numbers [] after c store line r = r.0.1.written
own_numbers (b ∷ before) after c store line r = own_numbers before after c b.store_after b.line_after r.1

split_line : (before after : List LinkedCall) (c : LinkedCall) → LinkedLine (before ++ c ∷ after)
    → Line (map observed_in before ++ observed_in c ∷ map observed_in after)
split_line before after c l = subst Line (map-append observed_in before (c ∷ after)) (line_in (before ++ c ∷ after) l)

history : (cs : List LinkedCall) → map call_of (map observed_in cs) ≡ map linked_call_of cs
history [] = refl
history (c ∷ cs) = ap (λ (h : List Call). linked_call_of c ∷ h) (history cs)

pub answer_numbers : (a b : Answer) → receiver_answer a ≡ receiver_answer b → (answer_kind a ≡ answer_kind b) × (answer_value a ≡ answer_value b)
answer_numbers a b e = (ap kind_told e, ap value_told e)

linked_as : (c : LinkedCall) (v : Verdict) → OwnNumbers c.line_after c.kind c.value → AnswersAs v (observed_in c) → LinkedAnswersAs v c
linked_as c v own a =
    record { kind = own.kind ∙ ap kind_told a.tells; value = own.value ∙ ap value_told a.tells; puts = a.puts }

pub linked_answers : LinkedAnswersByHistory
linked_answers before after c l =
    linked_as c _ (own_numbers before after c l.store l.line l.runs)
    (subst (λ (h : List Call). AnswersAs (answer h (linked_call_of c)) (observed_in c)) (history before)
    (answers (map observed_in before) (map observed_in after) (observed_in c) (split_line before after c l)))

pub linked_stretch_is_answered : LinkedStretchIsAnswered
linked_stretch_is_answered before after c l e some quiet =
    stretch_is_answered (map observed_in before) (map observed_in after) (observed_in c) (split_line before after c l) e
    (subst (λ (h : List Call). 1 ≤ length (open_stretch (cut_at_flags h).flags)) (sym (history before)) some)
    (ap (λ (n : ℕ). receiver_answer (answer_in n c.value)) quiet)

pub linked_counts : LinkedCountsByHistory
linked_counts before after c l =
    subst (λ (h : List Call). CountsAs (h ++ (linked_call_of c ∷ [])) (observed_in c).given.receiver.counts) (history before)
    (counts (map observed_in before) (map observed_in after) (observed_in c) (split_line before after c l))

pub linked_store : LinkedStoreByHistory
linked_store before after c l =
    subst (λ (h : List Call). StoreAs (h ++ (linked_call_of c ∷ [])) (observed_in c).given.receiver.rest.stored c.store_after) (history before)
    (store_by_history (map observed_in before) (map observed_in after) (observed_in c) (split_line before after c l))

pub linked_flag_clears : LinkedFlagClears
linked_flag_clears store line output kind value store_after line_after output_then r =
    let k = flag_clears (record_in line) store output _ store_after output_then r.received in
    let own = r.written.line in (
      k.0,
      ap (λ (l : List ℕ). get_or l 0 0) own ∙ ap (λ (s : Rest). phase_number s.phase) k.1,
      ap (λ (l : List ℕ). get_or l 1 0) own ∙ ap (λ (s : Rest). s.stored) k.1,
    )

-- ---- what is seen

own_all : (before after : List LinkedCall) (store line : List ℕ) → LinkedRuns store line (before ++ after)
    → map in_numbers (map observed_in after) ≡ after
own_all [] after store line r = same_numbers store line after r
own_all (b ∷ before) after store line r = own_all before after b.store_after b.line_after r.1

abbrev seen_told : Seen → LinkedSeen
seen_told s = record { kind = kind_told s.answer; value = value_told s.answer; octets = s.octets }

seen_told_lem : (c : LinkedCall) → linked_seen (in_numbers (observed_in c)) ≡ seen_told (seen (observed_in c))
seen_told_lem c =
    let a : Answer = answer_in c.kind c.value in
    λ i.
    record {
      kind = answer_kind a;
      value = answer_value a;
      octets = put_out (receiver_answer (answer_back a i)) c.output_then;
    }

seen_all : (cs : List LinkedCall) → map linked_seen (map in_numbers (map observed_in cs)) ≡ map seen_told (map seen (map observed_in cs))
seen_all [] = refl
seen_all (c ∷ cs) = λ i. seen_told_lem c i ∷ seen_all cs i

-- the calls behind a flag, as they are seen
seen_behind : (store line : List ℕ) (before : List LinkedCall) (f : LinkedCall) (os : List LinkedCall)
    → LinkedRuns store line (before ++ f ∷ os) → map linked_seen os ≡ map seen_told (map seen (map observed_in os))
seen_behind store line before f os r =
    let runs = subst (LinkedRuns store line) (sym (append_assoc before (f ∷ []) os)) r in
    ap (map linked_seen) (sym (own_all (before ++ (f ∷ [])) os store line runs)) ∙ seen_all os

split_runs : (store line : List ℕ) (before after : List LinkedCall) (c : LinkedCall) → LinkedRuns store line (before ++ c ∷ after)
    → Runs (record_in line) store (map observed_in before ++ observed_in c ∷ map observed_in after)
split_runs store line before after c r =
    subst (Runs (record_in line) store) (map-append observed_in before (c ∷ after)) (runs_in store line (before ++ c ∷ after) r)

pub linked_later_only : LinkedLaterOnly
linked_later_only store line another its_line before other f g os ps e k l m same =
    let all =
    later_only (record_in line) (record_in its_line) store another (map observed_in before) (map observed_in other) (observed_in f) (observed_in g)
    (map observed_in os) (map observed_in ps) e k (split_runs store line before os f l) (split_runs another its_line other ps g m)
    (history os ∙ same ∙ sym (history ps)) in
    seen_behind store line before f os l ∙ ap (map seen_told) all ∙ sym (seen_behind another its_line other g ps m)

-- ---- a body and its frame

pub linked_put_out_is_frame : LinkedPutOutIsFrame
linked_put_out_is_frame before after c l k =
    subst (λ (h : List Call). EndsIn (frame (take c.value c.output_then)) (h ++ (linked_call_of c ∷ [])) × BodyLength (take c.value c.output_then))
    (history before)
    (put_out_is_frame (map observed_in before) (map observed_in after) (observed_in c) c.value (split_line before after c l)
    (ap (λ (n : ℕ). receiver_answer (answer_in n c.value)) k))

pub linked_frame_is_put_out : LinkedFrameIsPutOut
linked_frame_is_put_out before after c b l long ends =
    linked_as c _ (own_numbers before after c l.store l.line l.runs)
    (frame_is_put_out (map observed_in before) (map observed_in after) (observed_in c) b (split_line before after c l) long
    (subst (λ (h : List Call). EndsIn (frame b) (h ++ (linked_call_of c ∷ []))) (sym (history before)) ends))

-- ---- demand 3

-- an answer that is told as a refusal is due as that
refusal_due : (v : Verdict) (number : ℕ) → answer_for v ≡ refusal number → v ≡ refused number
refusal_due silent number e = absurd (let z : ◌≡◌ {A = ℕ} 0 1 = cc in omega arith)
refusal_due (refused n) number e = let same : n ≡ number = cc in ap refused same
refusal_due (delivered octets) number e = absurd (let z : ◌≡◌ {A = ℕ} 0 1 = cc in omega arith)

pub linked_receiver_lists : LinkedReceiverLists
linked_receiver_lists calls l = (
  (λ before after c e. linked_answers before after c (subst LinkedLine e l)),
  λ before last e a b t least most so ends.
      let k = subst LinkedLine e l in
      let s = split_line before [] last k in
      let due = answers (map observed_in before) [] (observed_in last) s in
      let wrong =
      wrong_check_refused a b (record { least = least; most = most }) (strength a b t least most so) (map observed_in before) (observed_in last)
      s (subst (λ (h : List Call). EndsIn (carrying a b) (h ++ (linked_call_of last ∷ []))) (sym (history before)) ends) in
      linked_as last (refused because.wrong_check) (own_numbers before [] last k.store k.line k.runs)
      (subst (λ (v : Verdict). AnswersAs v (observed_in last)) (refusal_due _ because.wrong_check (sym due.tells ∙ wrong)) due),
)
