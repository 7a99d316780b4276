-- The promises of every line: its answers, counts and store by its history, and that after a flag only what follows
-- counts. Assumes nothing.
use mathlib.Core.Path.{◌≡◌, refl, sym, ◌∙◌, ap, ap₂, subst}
use mathlib.Core.List.{List, [], ◌∷◌, ◌++◌, map, append-nil, append_assoc, nil≢cons, cons≢nil, head-eq_of_cons-eq, tail-eq_of_cons-eq}
use Prim.Native.Nat.{ℕ, ◌+◌, ◌-◌, ◌%◌, ◌^◌, ◌≤◌}
use native.Mathlib.Omega.{arith}
use native.Mathlib.Nat.{add-mod, add-mod-mod, mod-mod}
use lib.ListN.{length, take, drop, replicate}
use lib.Seq.{take-append_seam}
use borrow.Author.Tests.{eq-eqb}
use Rattle.ucp_frame.specs.Frame.{flag}
use Rattle.ucp_frame.specs.Stretch.{unstuffed, Verdict, silent, refused, delivered, store_octets, verdict}
use Rattle.ucp_history.specs.History.{Call, Segment, cut_at_flags, open_stretch, answer, over_closed, Account, account}
use Rattle.ucp_receiver.specs.declared.Counts.{Counts}
use Rattle.ucp_receiver.specs.declared.Record.{Record}
use Rattle.ucp_receiver.specs.Answers.{ReceiverAnswer, answer_for, output_at_flag}
use Rattle.ucp_receiver.specs.Octet.{State, after_flag, state_after, verdict_due, counts_after}
use Rattle.thm_ucp_receiver.specs.Line.{Observed, call_of, up_to, Meets, Runs, Line}
use Rattle.thm_ucp_receiver.specs.Promises.{AnswersByHistory, StretchIsAnswered, account_counts, CountsByHistory, EveryOctetCounted, StoreClean, StoreByHistory, HuntingStoresNothing, FlagClears, put_out, Seen, seen, LaterOnly}
use Rattle.thm_ucp_receiver.proofs.Stretch.{verdict_answers}
use Rattle.thm_ucp_receiver.proofs.Slice.{silence_due}
use Rattle.thm_ucp_receiver.proofs.Cut.{account_sum}
use Rattle.thm_ucp_receiver.proofs.Record.{Stands, stands_fresh, stands_next, stands_answer, stands_clean, stands_holds}
use Rattle.thm_ucp_receiver.proofs.Counts.{stands_counts}

-- ---- the record after a history

record At (h : List Call) (receiver : Record) (store : List ℕ) : Type 0 where
  stands : Stands h (record { rest = receiver.rest; store = store })
  tally : receiver.counts ≡ account_counts (account h)

next : (h : List Call) {receiver : Record} {store : List ℕ} (o : Observed) → At h receiver store → Meets receiver store o
    → At (h ++ (call_of o ∷ [])) o.given.receiver o.store_after
next h {receiver} {store} o a r =
    let s : State = record { rest = receiver.rest; store = store } in
    record {
      stands = subst (Stands (h ++ (call_of o ∷ []))) (sym r.state) (stands_next h s (call_of o) a.stands);
      tally =
          r.account ∙ ap (λ (c : Counts). counts_after c s o.octet (length o.output)) a.tally
          ∙ stands_counts h s (call_of o) a.stands;
    }

-- the record that a part of a line leads to, and the rest of the line from there
record Come (h : List Call) (os : List Observed) : Type 0 where
  receiver : Record
  store : List ℕ
  at : At h receiver store
  runs : Runs receiver store os

come : (h : List Call) (before os : List Observed) {receiver : Record} {store : List ℕ}
    → At h receiver store → Runs receiver store (before ++ os) → Come (h ++ map call_of before) os
come h [] os a r = rw append-nil (record { receiver = _; store = _; at = a; runs = r })
come h (o ∷ before) os a r =
    rw append_assoc at (come (h ++ (call_of o ∷ [])) before os (next h o a r.1) r.2)

arrive : (before os : List Observed) → Line (before ++ os) → Come (map call_of before) os
unfolding cut_at_flags over_closed open_stretch
arrive before os = come [] before os (record { stands = stands_fresh; tally = refl })

-- ---- answers, counts, store

pub answers : AnswersByHistory
answers before after o l =
    let k = arrive before (o ∷ after) l in
    let due = stands_answer (map call_of before) _ (call_of o) k.at.stands in
    record {
      tells = k.runs.1.answers ∙ ap answer_for due;
      puts = k.runs.1.puts ∙ ap (λ (v : Verdict). output_at_flag v o.output) due;
    }

-- a stretch with an octet in it, closed with this room
closing_answers : (octets : List ℕ) (room : ℕ) → 1 ≤ length octets → verdict octets room ≡ silent → ⊥
closing_answers [] room some = absurd (omega (arith, some))
closing_answers (x ∷ xs) room some = verdict_answers x xs room

pub stretch_is_answered : StretchIsAnswered
unfolding answer
stretch_is_answered before after o l e some quiet =
    closing_answers (open_stretch (cut_at_flags (map call_of before)).flags) (length o.output) some
    (sym due ∙ silence_due (answer (map call_of before) (call_of o)) (sym (answers before after o l).tells ∙ quiet))
  where
    due : answer (map call_of before) (call_of o) ≡ verdict (open_stretch (cut_at_flags (map call_of before)).flags) (length o.output)
    due = rw (eq-eqb o.octet flag e)

after_call : (before after : List Observed) (o : Observed) → Line (before ++ o ∷ after)
    → At (up_to before o) o.given.receiver o.store_after
after_call before after o l = let k = arrive before (o ∷ after) l in next (map call_of before) o k.at k.runs.1

-- a count that has run round adds up to the same
wrapped_sum : (n m k : ℕ) → n % 2 ^ 32 ≡ m % 2 ^ 32 → (n + k % 2 ^ 32) % 2 ^ 32 ≡ (m + k) % 2 ^ 32
wrapped_sum n m k e =
    add-mod-mod n k (2 ^ 32) ∙ add-mod n k (2 ^ 32)
    ∙ ap (λ (r : ℕ). (r + k % 2 ^ 32) % 2 ^ 32) e ∙ sym (add-mod m k (2 ^ 32))

pub every_octet_counted : EveryOctetCounted
every_octet_counted = account_sum

pub counts : CountsByHistory
counts before after o l =
    record {
      each = t;
      received =
          ap (λ (c : Counts). (c.flags + c.delivered + c.refused + c.skipped + c.unclosed) % 2 ^ 32) t
          ∙ wrapped_sum _ _ a.open_octets (wrapped_sum _ _ a.skipped
          (wrapped_sum _ _ a.refused (wrapped_sum _ _ a.delivered (mod-mod a.flags (2 ^ 32)))))
          ∙ ap (λ (n : ℕ). n % 2 ^ 32) (account_sum calls);
    }
  where
    calls : List Call
    calls = up_to before o

    a : Account
    a = account calls

    t : o.given.receiver.counts ≡ account_counts (account calls)
    t = (after_call before after o l).tally

pub store_clean : StoreClean
store_clean before after o l = stands_clean _ _ (after_call before after o l).stands

pub store_by_history : StoreByHistory
store_by_history before after o l = stands_holds _ _ (after_call before after o l).stands

pub hunting_stores_nothing : HuntingStoresNothing
unfolding open_stretch unstuffed
hunting_stores_nothing before after o l e =
    let k = store_by_history before after o l in (
      k.number ∙ ap (λ (fs : List Segment). length (take store_octets (unstuffed (open_stretch fs)).octets)) e,
      k.octets ∙ ap held e,
    )
  where
    held : List Segment → List ℕ
    held fs =
        take store_octets (unstuffed (open_stretch fs)).octets
        ++ replicate (store_octets - length (take store_octets (unstuffed (open_stretch fs)).octets)) 0

pub flag_clears : FlagClears
unfolding state_after
flag_clears receiver store output given store_after output_then r =
    (ap (λ (s : State). s.store) r.state, ap (λ (s : State). s.rest) r.state)

-- ---- after a flag only what follows counts

-- what is seen of a verdict
abbrev shown : Verdict → Seen
shown silent = record { answer = answer_for silent; octets = [] }
shown (refused number) = record { answer = answer_for (refused number); octets = [] }
shown (delivered octets) = record { answer = answer_for (delivered octets); octets = octets }

seen_shown : (s : State) {c : Counts} (o : Observed) → Meets (record { rest = s.rest; counts = c }) s.store o
    → seen o ≡ shown (verdict_due s o.octet (length o.output))
seen_shown s o r =
    ap₂ (λ (a : ReceiverAnswer) (l : List ℕ). record { answer = a; octets = put_out a l }) r.answers r.puts
    ∙ go (verdict_due s o.octet (length o.output))
  where
    go : (v : Verdict)
        → ◌≡◌ {A = Seen} (record { answer = answer_for v; octets = put_out (answer_for v) (output_at_flag v o.output) }) (shown v)
    go silent = refl
    go (refused number) = refl
    go (delivered octets) =
        λ i. record { answer = answer_for (delivered octets); octets = take-append_seam octets (drop (length octets) o.output) i }

same_seen : (os ps : List Observed) (s t : State) (c d : Counts) → s ≡ t
    → Runs (record { rest = s.rest; counts = c }) s.store os → Runs (record { rest = t.rest; counts = d }) t.store ps → map call_of os ≡ map call_of ps → map seen os ≡ map seen ps
same_seen [] [] s t c d e r q k = refl
same_seen [] (p ∷ ps) s t c d e r q k = absurd (nil≢cons k)
same_seen (o ∷ os) [] s t c d e r q k = absurd (cons≢nil k)
same_seen (o ∷ os) (p ∷ ps) s t c d e r q k =
    let h : call_of o ≡ call_of p = head-eq_of_cons-eq k in
    ap₂ (λ (x : Seen) (xs : List Seen). x ∷ xs)
    (seen_shown s o r.1
    ∙ ap₂ (λ (u : State) (b : Call). shown (verdict_due u b.octet b.room)) e h
    ∙ sym (seen_shown t p q.1))
    (same_seen os ps _ _ o.given.receiver.counts p.given.receiver.counts
    (r.1.state ∙ ap₂ (λ (u : State) (b : Call). state_after u b.octet) e h ∙ sym q.1.state)
    r.2 q.2 (tail-eq_of_cons-eq k))

flag_leads : (s : State) (x : ℕ) → x ≡ flag → state_after s x ≡ after_flag
unfolding state_after
flag_leads s x e = rw (eq-eqb x flag e)

-- the rest of a run, from the record that its first part leads to
record From (os : List Observed) : Type 0 where
  receiver : Record
  store : List ℕ
  runs : Runs receiver store os

behind : (receiver : Record) (store : List ℕ) (before os : List Observed) → Runs receiver store (before ++ os) → From os
behind receiver store [] os r = record { receiver = receiver; store = store; runs = r }
behind receiver store (o ∷ before) os r = behind o.given.receiver o.store_after before os r.2

pub later_only : LaterOnly
later_only receiver another store its_store before other f g os ps e n l m k =
    let a = behind receiver store before (f ∷ os) l in
    let b = behind another its_store other (g ∷ ps) m in
    same_seen os ps _ _ f.given.receiver.counts g.given.receiver.counts
    (a.runs.1.state ∙ flag_leads _ f.octet e ∙ sym (b.runs.1.state ∙ flag_leads _ g.octet n))
    a.runs.2 b.runs.2 k
