-- A slice is taken as its octets would be, and a line driven by slices is a line of calls by the octet. Assumes nothing.
use mathlib.Core.Path.{◌≡◌, refl, sym, ◌∙◌, ap, ap₂, subst}
use mathlib.Core.List.{List, [], ◌∷◌, ◌++◌, map, map-append, append_assoc}
use Prim.Native.Nat.{ℕ, zero, suc, ◌<◌, ◌≤◌}
use native.Mathlib.Omega.{arith}
use native.Mathlib.Numerals.{add-one}
use lib.ListN.{length, take, get_or, length-replicate}
use Rattle.crc_polynomial.specs.Polynomial.{Octets}
use Rattle.ucp_frame.specs.Frame.{flag}
use Rattle.ucp_frame.specs.Stretch.{Verdict, silent, refused, delivered}
use Rattle.ucp_receiver.specs.declared.Counts.{Counts}
use Rattle.ucp_receiver.specs.declared.Record.{Record}
use Rattle.ucp_receiver.specs.Answers.{Answer, ReceiverAnswer, nothing, receiver_answer, answer_for, output_at_flag}
use Rattle.ucp_receiver.specs.Octet.{State, no_octets, fresh_record, after_flag, state_after, verdict_due, counts_after}
use Rattle.ucp_receiver.specs.Slice.{SliceRun, later, end_at, slice_run}
use Rattle.thm_ucp_receiver.specs.Line.{Observed, Meets, Runs, Line}
use Rattle.thm_ucp_receiver.specs.Slice.{state_over, answers_over, last_of, TakenAs, SliceIsOctets, ObservedSlice, rooms_of, Held, record_after, output_last, Lent, AnswersLast, CallsOf, SliceRuns, SliceFlagClears, SlicesRun, CallsUpTo, LineOfSlices, AllSilent, SliceIsCall}
use Rattle.thm_ucp_receiver.proofs.Answered.{due_told}
use Rattle.thm_ucp_receiver.proofs.Stretch.{refused_answers, delivered_answers}

last_silent : (vs : List Verdict) → last_of (silent ∷ vs) ≡ last_of vs
last_silent [] = refl
last_silent (v ∷ vs) = refl

module _ (s : State) (c : Counts) (x : ℕ) (xs : List ℕ) (room : ℕ) where
  -- the first octet is silent
  goes_on : (r : SliceRun) → verdict_due s x room ≡ silent → TakenAs (state_after s x) (counts_after c s x room) xs room r
      → TakenAs s c (x ∷ xs) room (later r)
  goes_on r e t =
      rw (add-one r.taken)
      (record {
        most = omega (arith, t.most);
        state = t.state;
        counts = t.counts;
        verdict = t.verdict ∙ sym (last_silent rest) ∙ ap (λ (v : Verdict). last_of (v ∷ rest)) (sym e);
        quiet = quiet;
        all = λ k. ap suc (t.all k);
      })
    where
      rest : List Verdict
      rest = answers_over (state_after s x) (take r.taken xs) room

      quiet : (i : ℕ) → suc i < suc r.taken → get_or (verdict_due s x room ∷ rest) i silent ≡ silent
      quiet zero h = e
      quiet (suc i) h = t.quiet i (omega arith)

  abbrev stopped : SliceRun
  stopped = record { state = state_after s x; counts = counts_after c s x room; taken = 1; verdict = verdict_due s x room }

  -- the first octet brings an answer
  stops : (verdict_due s x room ≡ silent → ⊥) → TakenAs s c (x ∷ xs) room stopped
  stops n =
      record {
        most = omega arith;
        state = refl;
        counts = refl;
        verdict = refl;
        quiet = λ i h. absurd (omega arith);
        all = λ e. absurd (n e);
      }

  by_answer : (r : SliceRun) → TakenAs (state_after s x) (counts_after c s x room) xs room r → (v : Verdict) → verdict_due s x room ≡ v
      → TakenAs s c (x ∷ xs) room (end_at v stopped (later r))
  by_answer r t silent e = goes_on r e t
  by_answer r t (refused number) e = stops (λ k. refused_answers number (sym e ∙ k))
  by_answer r t (delivered octets) e = stops (λ k. delivered_answers octets (sym e ∙ k))

pub slice_is_octets : SliceIsOctets
unfolding slice_run
slice_is_octets s c [] room =
    record {
      most = omega arith;
      state = refl;
      counts = refl;
      verdict = refl;
      quiet = λ i h. absurd (omega arith);
      all = λ e. refl;
    }
slice_is_octets s c (x ∷ xs) room =
    by_answer s c x xs room _ (slice_is_octets (state_after s x) (counts_after c s x room) xs room) (verdict_due s x room) refl

-- ---- a flag taken last

state_append : (s : State) (xs : List ℕ) (x : ℕ) → state_over s (xs ++ x ∷ []) ≡ state_after (state_over s xs) x
state_append s [] x = refl
state_append s (y ∷ ys) x = state_append (state_after s y) ys x

flag_leads : (s : State) → state_after s flag ≡ after_flag
unfolding state_after
flag_leads s = refl

pub slice_flag_clears : SliceFlagClears
slice_flag_clears receiver store line output given store_after output_then earlier t e =
    (ap (λ (u : State). u.store) left, ap (λ (u : State). u.rest) left)
  where
    s : State
    s = record { rest = receiver.rest; store = store }

    left : ◌≡◌ {A = State} (record { rest = given.receiver.rest; store = store_after }) after_flag
    left =
        t.state ∙ (slice_is_octets s receiver.counts line (length output)).state
        ∙ ap (λ (n : ℕ). state_over s (take n line)) (sym t.taken) ∙ ap (state_over s) e
        ∙ state_append s earlier flag ∙ flag_leads (state_over s earlier)

-- ---- the calls by the octet

abbrev record_of : State → Counts → Record
record_of s c = record { rest = s.rest; counts = c }

-- what the contracts leave of a call with an octet, and of one with a slice that comes to this run
abbrev called : State → Counts → ℕ → List ℕ → Observed
called s c x output =
    let v : Verdict = verdict_due s x (length output) in
    record {
      octet = x;
      output = output;
      given =
          record { receiver = record_of (state_after s x) (counts_after c s x (length output)); answer = (due_told s x (length output)).answer };
      store_after = (state_after s x).store;
      output_then = output_at_flag v output;
    }

abbrev called_with : List ℕ → List ℕ → SliceRun → Answer → ObservedSlice
called_with xs output r answer =
    record {
      line = xs;
      output = output;
      given =
          record { receiver = record_of r.state r.counts; answer = answer; taken = r.taken };
      store_after = r.state.store;
      output_then = output_at_flag r.verdict output;
    }

meets : (s : State) (c : Counts) (x : ℕ) (output : List ℕ) → Meets (record_of s c) s.store (called s c x output)
meets s c x output = record { state = refl; account = refl; answers = (due_told s x (length output)).tells; puts = refl }

-- an answer that says nothing is due to silence
pub silence_due : (v : Verdict) → answer_for v ≡ nothing → v ≡ silent
silence_due silent e = refl
silence_due (refused number) e = absurd (let z : ◌≡◌ {A = ℕ} 0 1 = cc in omega arith)
silence_due (delivered octets) e = absurd (let z : ◌≡◌ {A = ℕ} 0 1 = cc in omega arith)

-- a silent call before others
silent_first : (t : ReceiverAnswer) (o : Observed) (os : List Observed) → receiver_answer o.given.answer ≡ nothing → AnswersLast t os
    → AnswersLast t (o ∷ os)
silent_first t o [] e a = e ∙ a
silent_first t o (p ∷ os) e a = (e, a)

module _ (s : State) (c : Counts) (x : ℕ) (xs : List ℕ) (output : List ℕ) (small : x < 256) where
  abbrev first : Observed
  first = called s c x output

  tells : receiver_answer first.given.answer ≡ answer_for (verdict_due s x (length output))
  tells = (due_told s x (length output)).tells

  call_then : (r : SliceRun) (answer : Answer) → verdict_due s x (length output) ≡ silent
      → CallsOf (record_of (state_after s x) (counts_after c s x (length output))) (state_after s x).store (called_with xs output r answer)
      → CallsOf (record_of s c) s.store (called_with (x ∷ xs) output (later r) answer)
  call_then r answer e k =
      rw (add-one r.taken)
      (record {
        calls = first ∷ k.calls;
        runs = (small, meets s c x output, k.runs);
        octets = ap (λ (l : List ℕ). x ∷ l) k.octets;
        rooms = ap (λ (l : List ℕ). length output ∷ l) k.rooms;
        lent = (refl, subst (λ (l : List ℕ). Lent l k.calls) (sym same) k.lent);
        leaves = k.leaves;
        puts = ap (λ (l : List ℕ). output_last l k.calls) same ∙ k.puts;
        answers = silent_first _ first k.calls (tells ∙ ap answer_for e) k.answers;
        all = λ n. ap suc (k.all n);
      })
    where
      same : first.output_then ≡ output
      same = ap (λ (v : Verdict). output_at_flag v output) e

  call_only : (answer : Answer) → receiver_answer answer ≡ answer_for (verdict_due s x (length output)) → (verdict_due s x (length output) ≡ silent → ⊥)
      → CallsOf (record_of s c) s.store (called_with (x ∷ xs) output (stopped s c x xs (length output)) answer)
  call_only answer told n =
      record {
        calls = first ∷ [];
        runs = (small, meets s c x output, tt);
        octets = refl;
        rooms = refl;
        lent = (refl, tt);
        leaves = refl;
        puts = refl;
        answers = tells ∙ sym told;
        all = λ e. absurd (n (silence_due _ (sym told ∙ e)));
      }

  calls_by_answer : (r : SliceRun) (answer : Answer)
      → (receiver_answer answer ≡ answer_for r.verdict → CallsOf (record_of (state_after s x) (counts_after c s x (length output))) (state_after s x).store (called_with xs output r answer))
      → (v : Verdict) → verdict_due s x (length output) ≡ v
      → receiver_answer answer ≡ answer_for (end_at v (stopped s c x xs (length output)) (later r)).verdict
      → CallsOf (record_of s c) s.store (called_with (x ∷ xs) output (end_at v (stopped s c x xs (length output)) (later r)) answer)
  calls_by_answer r answer k silent e told = call_then r answer e (k told)
  calls_by_answer r answer k (refused number) e told = call_only answer told (λ n. refused_answers number (sym e ∙ n))
  calls_by_answer r answer k (delivered octets) e told = call_only answer told (λ n. delivered_answers octets (sym e ∙ n))

calls_of_run : (s : State) (c : Counts) (xs output : List ℕ) (answer : Answer) → Octets xs
    → receiver_answer answer ≡ answer_for (slice_run s c xs (length output)).verdict
    → CallsOf (record_of s c) s.store (called_with xs output (slice_run s c xs (length output)) answer)
unfolding slice_run
calls_of_run s c [] output answer small told =
    record {
      calls = [];
      runs = tt;
      octets = refl;
      rooms = refl;
      lent = tt;
      leaves = refl;
      puts = refl;
      answers = sym told;
      all = λ n. refl;
    }
calls_of_run s c (x ∷ xs) output answer small told =
    calls_by_answer s c x xs output (small 0) _ answer
    (calls_of_run (state_after s x) (counts_after c s x (length output)) xs output answer (λ i. small (suc i))) (verdict_due s x (length output)) refl told

pub slice_runs : SliceRuns
slice_runs receiver store s t =
    subst (CallsOf receiver store) (sym same)
    (calls_of_run (record { rest = receiver.rest; store = store }) receiver.counts s.line s.output s.given.answer t.0 t.1.answers)
  where
    same : s ≡ called_with s.line s.output (slice_run (record { rest = receiver.rest; store = store }) receiver.counts s.line (length s.output)) s.given.answer
    same =
        λ i.
        record {
          line = s.line;
          output = s.output;
          given = record { receiver = record { rest = (t.1.state i).rest; counts = t.1.account i }; answer = s.given.answer; taken = t.1.taken i };
          store_after = (t.1.state i).store;
          output_then = t.1.puts i;
        }

-- ---- a line driven by slices

gather : (f : Observed → ℕ) (os ps : List Observed) {l m : List ℕ} → map f os ≡ l → map f ps ≡ m → map f (os ++ ps) ≡ l ++ m
gather f os ps e k = map-append f os ps ∙ ap₂ (λ (a b : List ℕ). a ++ b) e k

abbrev RunsFrom : Held → List Observed → Type 0
RunsFrom h = Runs h.receiver h.store

runs_append : (h : Held) (os ps : List Observed) → RunsFrom h os → RunsFrom (record_after h os) ps → RunsFrom h (os ++ ps)
runs_append h [] ps r q = q
runs_append h (o ∷ os) ps r q = (r.0, r.1, runs_append _ os ps r.2 q)

record_append : (h : Held) (os ps : List Observed) → record_after h (os ++ ps) ≡ record_after (record_after h os) ps
record_append h [] ps = refl
record_append h (o ∷ os) ps = record_append _ os ps

calls_up_to : (receiver : Record) (store : List ℕ) (before after : List ObservedSlice) (s : ObservedSlice)
    → SlicesRun receiver store (before ++ s ∷ after) → CallsUpTo receiver store before s
calls_up_to receiver store [] after s r =
    let k = slice_runs receiver store s r.0 in
    record {
      earlier = [];
      octets = refl;
      rooms = refl;
      met = record { receiver = receiver; store = store };
      meets = refl;
      own = k;
      runs = k.runs;
    }
calls_up_to receiver store (b ∷ before) after s r =
    let k = slice_runs receiver store b r.0 in
    let j = calls_up_to b.given.receiver b.store_after before after s r.1 in
    record {
      earlier = k.calls ++ j.earlier;
      octets = gather _ k.calls j.earlier k.octets j.octets;
      rooms = gather _ k.calls j.earlier k.rooms j.rooms;
      met = j.met;
      meets = record_append _ k.calls j.earlier ∙ ap (λ (h : Held). record_after h j.earlier) k.leaves ∙ j.meets;
      own = j.own;
      runs =
          rw append_assoc
          (runs_append (record { receiver = receiver; store = store }) k.calls (j.earlier ++ j.own.calls) k.runs
          (subst (λ (h : Held). RunsFrom h (j.earlier ++ j.own.calls)) (sym k.leaves) j.runs));
    }

pub line_of_slices : LineOfSlices
line_of_slices = calls_up_to fresh_record no_octets

-- the last of some calls
record Last (t : ReceiverAnswer) (held : Held) (output : List ℕ) (os : List Observed) : Type 0 where
  quiet : List Observed
  last : Observed
  parts : os ≡ quiet ++ last ∷ []
  silence : AllSilent quiet
  lent : last.output ≡ output
  answer : receiver_answer last.given.answer ≡ t
  leaves : record_after held os ≡ record { receiver = last.given.receiver; store = last.store_after }
  puts : output_last output os ≡ last.output_then

-- a call without an answer leaves the output
left_alone : (receiver : Record) (store : List ℕ) (o : Observed) → Meets receiver store o → receiver_answer o.given.answer ≡ nothing
    → o.output_then ≡ o.output
left_alone receiver store o m e =
    let v : Verdict = verdict_due (record { rest = receiver.rest; store = store }) o.octet (length o.output) in
    m.puts ∙ ap (λ (w : Verdict). output_at_flag w o.output) (silence_due v (sym m.answers ∙ e))

last_call : (t : ReceiverAnswer) (held : Held) (output : List ℕ) (o : Observed) (os : List Observed) → AnswersLast t (o ∷ os)
    → RunsFrom held (o ∷ os) → Lent output (o ∷ os) → Last t held output (o ∷ os)
last_call t held output o [] a r n =
    record { quiet = []; last = o; parts = refl; silence = tt; lent = n.0; answer = a; leaves = refl; puts = refl }
last_call t held output o (p ∷ os) a r n =
    let k = last_call t (record { receiver = o.given.receiver; store = o.store_after }) o.output_then p os a.1 r.2 n.1 in
    record {
      quiet = o ∷ k.quiet;
      last = k.last;
      parts = ap (λ (l : List Observed). o ∷ l) k.parts;
      silence = (a.0, k.silence);
      lent = k.lent ∙ left_alone held.receiver held.store o r.1 a.0 ∙ n.0;
      answer = k.answer;
      leaves = k.leaves;
      puts = k.puts;
    }

-- the calls of a slice that took an octet are not none
last_of_lem : (met : Held) (s : ObservedSlice) (k : CallsOf met.receiver met.store s) → 1 ≤ s.given.taken
    → Last (receiver_answer s.given.answer) met s.output k.calls
last_of_lem met s k some = go k.calls k.rooms k.answers k.runs k.lent
  where
    t : ReceiverAnswer
    t = receiver_answer s.given.answer

    go : (os : List Observed) → map (λ (o : Observed). length o.output) os ≡ rooms_of s → AnswersLast t os → RunsFrom met os
        → Lent s.output os → Last t met s.output os
    go [] e a r n = absurd (omega (arith, length-replicate s.given.taken (length s.output), ap length e))
    go (o ∷ os) e a r n = last_call t met s.output o os a r n

pub slice_is_call : SliceIsCall
slice_is_call before after s r some =
    record {
      earlier = u.earlier;
      quiet = k.quiet;
      last = k.last;
      line = subst Line whole u.runs;
      octets_before = u.octets;
      octets = ap (map (λ (o : Observed). o.octet)) (sym k.parts) ∙ u.own.octets;
      rooms_before = u.rooms;
      rooms = ap (map (λ (o : Observed). length o.output)) (sym k.parts) ∙ u.own.rooms;
      silence = k.silence;
      output = k.lent;
      answer = k.answer;
      receiver = ap (λ (h : Held). h.receiver) left;
      store_after = ap (λ (h : Held). h.store) left;
      output_then = sym k.puts ∙ u.own.puts;
    }
  where
    u : CallsUpTo fresh_record no_octets before s
    u = line_of_slices before after s r

    k : Last (receiver_answer s.given.answer) u.met s.output u.own.calls
    k = last_of_lem u.met s u.own some

    whole : u.earlier ++ u.own.calls ≡ (u.earlier ++ k.quiet) ++ k.last ∷ []
    whole =
        ap (λ (l : List Observed). u.earlier ++ l) k.parts
        ∙ sym (append_assoc u.earlier k.quiet (k.last ∷ []))

    left : ◌≡◌ {A = Held} (record { receiver = k.last.given.receiver; store = k.last.store_after })
        (record { receiver = s.given.receiver; store = s.store_after })
    left = sym k.leaves ∙ u.own.leaves
