-- What calls of `list_some` put, one after the other, is the listing of the octets that they took. Assumes nothing.
use mathlib.Core.Path.{◌≡◌, refl, sym, ap, ap₂, subst, ◌∙◌}
use mathlib.Core.Bool.{Bool, true, false, cond}
use mathlib.Core.List.{List, [], ◌∷◌, ◌++◌, map, map-append, append_assoc, append-nil}
use Prim.Native.Nat.{ℕ, ◌+◌, ◌-◌, ◌≤◌}
use native.Mathlib.Numerals.{add-one}
use native.Mathlib.Omega.{arith}
use lib.Dec.{ltb}
use lib.ListN.{length, take, drop}
use lib.Seq.{sets, sets-eq, take-append_seam}
use borrow.Author.Tests.{le-leb}
use Rattle.output_writing.specs.Puts.{Puts}
use Rattle.ucp_history.specs.History.{Call, answer, account}
use Rattle.ucp_receiver.specs.declared.Counts.{Counts}
use Rattle.ucp_receiver.specs.declared.Record.{Record}
use Rattle.ucp_receiver.specs.Answers.{output_at_flag}
use Rattle.ucp_receiver.specs.Octet.{State, state_of, no_octets, fresh_record, state_after, verdict_due, counts_after}
use Rattle.text_ucp_listing.specs.Listing.{body_room, longest_line, answer_line, closing_line, longest_closing}
use Rattle.text_ucp_listing.specs.Lists.{Lines, behind, no_lines, lines, Lists, behind_all, every_line}
use Rattle.thm_ucp_receiver.specs.Slice.{gathered}
use Rattle.thm_ucp_receiver.specs.Promises.{account_counts}
use Rattle.thm_ucp_listing.specs.Input.{listed_call, answer_lines}
use Rattle.thm_ucp_listing.specs.Calls.{ListCall, ListRuns, list_taken, list_text, counts_last, CallsAreListing}
use Rattle.thm_ucp_listing.proofs.Input.{listed_after, one_call, Keeps, KeepsBehind, keeps_fresh, keeps_behind, lines_by_history}

-- ---- one call

-- the text, and the record behind, of the octets that were taken
record TakenLines (s : State) (c : Counts) (xs : List ℕ) (l : Lines) : Type 0 where
  text : l.text ≡ every_line s c (take l.taken xs)
  left : behind_all s c (take l.taken xs) ≡ record { state = l.state; counts = l.counts }

one_more : (s : State) (c : Counts) (room : List ℕ) (x : ℕ) (xs : List ℕ) (l : Lines)
    → TakenLines (state_after s x) (counts_after c s x body_room) xs l → (full : Bool)
    → TakenLines s c (x ∷ xs) (cond full (no_lines s c room) (behind (answer_line (verdict_due s x body_room)) l))
unfolding behind_all every_line
one_more s c room x xs l t true = record { text = refl; left = refl }
one_more s c room x xs l t false =
    rw (add-one l.taken)
    (record {
      text = ap (λ (m : List ℕ). answer_line (verdict_due s x body_room) ++ m) t.text;
      left = t.left;
    })

taken_lines : (s : State) (c : Counts) (room xs : List ℕ) (free : ℕ) → TakenLines s c xs (lines s c room xs free)
unfolding lines behind_all every_line
taken_lines s c room [] free = record { text = refl; left = refl }
taken_lines s c room (x ∷ xs) free =
    let due = verdict_due s x body_room in
    one_more s c room x xs _
    (taken_lines (state_after s x) (counts_after c s x body_room) (output_at_flag due room) xs (free - length (answer_line due)))
    (ltb free longest_line)

-- octets put at the start of a text that has room for them are what then stands there
put_first : (before octets : List ℕ) (next : ℕ) (after : List ℕ) → Puts before 0 octets next after → next ≤ length before
    → take next after ≡ octets
put_first before octets next after p h =
    let n : next ≡ length octets = omega (arith, p.ends) in
    let e : sets before 0 octets ≡ octets ++ drop (0 + length octets) before = sets-eq octets before 0 (omega (arith, p.ends)) in
    ap₂ take n (p.leaves ∙ e) ∙ take-append_seam octets (drop (0 + length octets) before)

record CallLines (h : List Call) (c : ListCall) : Type 0 where
  text : list_text c ≡ answer_lines h (list_taken c)
  keeps : Keeps (listed_after h (list_taken c)) (state_of c.given.receiver.rest c.store_after) c.given.receiver.counts

call_lines : (h : List Call) (receiver : Record) (store : List ℕ) (c : ListCall)
    → Lists receiver store c.room c.line c.text c.given c.store_after c.room_after c.text_after
    → Keeps h (state_of receiver.rest store) receiver.counts → CallLines h c
call_lines h receiver store c l k =
    record {
      text =
          put_first c.text run.text c.given.written c.text_after l.puts l.within
          ∙ t.text ∙ ap (λ (n : ℕ). every_line s counts (take n c.line)) (sym l.taken)
          ∙ lines_by_history h s counts (list_taken c) k;
      keeps = subst (KeepsBehind (listed_after h (list_taken c))) left (keeps_behind h s counts (list_taken c) k);
    }
  where
    s : State
    s = state_of receiver.rest store

    counts : Counts
    counts = receiver.counts

    run : Lines
    run = lines s counts c.room c.line (length c.text)

    t : TakenLines s counts c.line run
    t = taken_lines s counts c.room c.line (length c.text)

    left : behind_all s counts (list_taken c)
        ≡ record { state = state_of c.given.receiver.rest c.store_after; counts = c.given.receiver.counts }
    left =
        ap (λ (n : ℕ). behind_all s counts (take n c.line)) l.taken
        ∙ t.left ∙ (λ i. record { state = sym l.state i; counts = sym l.account i })

-- ---- all calls

pub answer_lines_append : (h : List Call) (xs ys : List ℕ) → answer_lines h (xs ++ ys) ≡ answer_lines h xs ++ answer_lines (listed_after h xs) ys
unfolding answer_lines
answer_lines_append h [] ys = ap (λ (l : List Call). answer_lines l ys) (sym (append-nil h))
answer_lines_append h (x ∷ xs) ys =
    ap (λ (l : List ℕ). answer_line (answer h (listed_call x)) ++ l)
    (answer_lines_append (h ++ (listed_call x ∷ [])) xs ys
    ∙ ap (λ (l : List Call). answer_lines (h ++ (listed_call x ∷ [])) xs ++ answer_lines l ys) (one_call h x xs))
    ∙ sym (append_assoc (answer_line (answer h (listed_call x))) (answer_lines (h ++ (listed_call x ∷ [])) xs) _)

pub listed_both : (h : List Call) (xs ys : List ℕ) → listed_after (listed_after h xs) ys ≡ listed_after h (xs ++ ys)
listed_both h xs ys =
    append_assoc h (map listed_call xs) (map listed_call ys) ∙ ap (λ (l : List Call). h ++ l) (sym (map-append listed_call xs ys))

record AllLines (h : List Call) (counts : Counts) (cs : List ListCall) : Type 0 where
  text : gathered list_text cs ≡ answer_lines h (gathered list_taken cs)
  tally : counts_last counts cs ≡ account_counts (account (listed_after h (gathered list_taken cs)))

all_lines : (h : List Call) (receiver : Record) (store : List ℕ) (cs : List ListCall) → ListRuns receiver store cs
    → Keeps h (state_of receiver.rest store) receiver.counts → AllLines h receiver.counts cs
unfolding answer_lines
all_lines h receiver store [] r k = record { text = refl; tally = rw append-nil k.tally }
all_lines h receiver store (c ∷ cs) r k =
    let one = call_lines h receiver store c r.0 k in
    let rest = all_lines (listed_after h (list_taken c)) c.given.receiver c.store_after cs r.1 one.keeps in
    let more = gathered list_taken cs in
    record {
      text = ap₂ (λ (l m : List ℕ). l ++ m) one.text rest.text ∙ sym (answer_lines_append h (list_taken c) more);
      tally =
          rest.tally
          ∙ ap (λ (l : List Call). account_counts (account l)) (listed_both h (list_taken c) more);
    }

pub calls_are_listing : CallsAreListing
calls_are_listing cs r text next after room p =
    let all = all_lines [] fresh_record no_octets cs r keeps_fresh in
    let put = rw (le-leb (0 + longest_closing) (length text) (omega arith)) at p in
    ap₂ (λ (l m : List ℕ). l ++ m) all.text
    (put_first text _ next after put.puts put.within ∙ ap closing_line all.tally)
