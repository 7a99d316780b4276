-- The lines of a slice, run by run of the receiver. Assumes nothing.
use mathlib.Core.Path.{◌≡◌, refl, sym, ap, ◌∙◌}
use mathlib.Core.List.{List, [], ◌∷◌, ◌++◌, append_assoc, append-nil}
use Prim.Native.Nat.{ℕ, suc, ◌+◌, ◌-◌, ◌<◌, ◌≤◌}
use native.Mathlib.Nat.{zero-add, sub-zero}
use native.Mathlib.Numerals.{add-one}
use native.Mathlib.Omega.{arith}
use Rattle.std.proofs.Common.{None, Some, Ok, Err}
use lib.ListN.{length, drop, length-append, length-drop}
use lib.Seq.{take-append_seam}
use borrow.Author.Tests.{le-ltb, lt-ltb}
use Rattle.ucp_frame.specs.Stretch.{Verdict, silent, refused, delivered}
use Rattle.output_writing.specs.Puts.{Puts}
use Rattle.output_writing.proofs.ToPut.{all_to_put, first_put, last_put}
use Rattle.ucp_receiver.specs.declared.Record.{Record}
use Rattle.ucp_receiver.specs.declared.Counts.{Counts}
use Rattle.ucp_receiver.specs.declared.Taken.{Taken}
use Rattle.ucp_receiver.specs.Answers.{Answer, output_at_flag, ReceiverAnswer, receiver_answer, answer_for}
use Rattle.ucp_receiver.specs.Octet.{State, state_after, verdict_due, counts_after, state_of}
use Rattle.ucp_receiver.specs.Slice.{SliceRun, slice_run, later, end_at, Takes}
use Rattle.text_ucp_listing.specs.declared.Listed.{Listed}
use Rattle.text_ucp_listing.specs.Listing.{answer_line, ok_line, body_room, longest_line}
use Rattle.text_ucp_listing.specs.Lists.{Lines, behind, no_lines, lines, Lists}
use Rattle.text_ucp_listing.specs.Steps.{line_of_answer, BodyWithin, PutsLine}
use Rattle.text_ucp_listing.proofs.Whole.{same_long}

-- ---- how many octets a run takes

-- a run that ends here, or goes on as r
abbrev ended : State → Counts → Verdict → SliceRun
ended s c due = record { state = s; counts = c; taken = 1; verdict = due }

run_within : (s : State) (c : Counts) (xs : List ℕ) (room : ℕ) → (slice_run s c xs room).taken ≤ length xs
unfolding slice_run
run_within s c [] room = omega arith
run_within s c (x ∷ xs) room =
    go (verdict_due s x room) (slice_run (state_after s x) (counts_after c s x room) xs room)
    (run_within (state_after s x) (counts_after c s x room) xs room)
  where
    go : (due : Verdict) (r : SliceRun) → r.taken ≤ length xs
        → (end_at due (ended (state_after s x) (counts_after c s x room) due) (later r)).taken ≤ suc (length xs)
    go silent r h = omega arith
    go (refused number) r h = omega arith
    go (delivered octets) r h = omega arith

run_moves : (s : State) (c : Counts) (xs : List ℕ) (room : ℕ) → 0 < length xs → 0 < (slice_run s c xs room).taken
unfolding slice_run
run_moves s c [] room h = absurd (omega arith)
run_moves s c (x ∷ xs) room h = go (verdict_due s x room) (slice_run (state_after s x) (counts_after c s x room) xs room)
  where
    go : (due : Verdict) (r : SliceRun) → 0 < (end_at due (ended (state_after s x) (counts_after c s x room) due) (later r)).taken
    go silent r = omega arith
    go (refused number) r = omega arith
    go (delivered octets) r = omega arith

-- ---- lines behind others

-- n octets were taken before all this, and brought this text
abbrev after : ℕ → List ℕ → Lines → Lines
after n text l = record { state = l.state; counts = l.counts; room = l.room; taken = l.taken + n; text = text ++ l.text }

-- the lines of a slice from where a run ended on, behind the run's line
abbrev followed : List ℕ → List ℕ → ℕ → SliceRun → Lines
followed room xs free r =
    after r.taken (answer_line r.verdict)
    (lines r.state r.counts (output_at_flag r.verdict room) (drop r.taken xs) (free - length (answer_line r.verdict)))

followed_later : (room : List ℕ) (x : ℕ) (xs : List ℕ) (free : ℕ) (r : SliceRun)
    → behind [] (followed room xs free r) ≡ followed room (x ∷ xs) free (later r)
followed_later room x xs free r =
    let rest : List ℕ → Lines = λ ys. lines r.state r.counts (output_at_flag r.verdict room) ys (free - length (answer_line r.verdict)) in
    let l : Lines = rest (drop r.taken xs) in
    let e : l.taken + r.taken + 1 ≡ l.taken + (r.taken + 1) = omega arith in
    ap (λ (n : ℕ). record { state = l.state; counts = l.counts; room = l.room; taken = n; text = answer_line r.verdict ++ l.text }) e
    ∙ ap (λ (n : ℕ). after (r.taken + 1) (answer_line r.verdict) (rest (drop n (x ∷ xs)))) (sym (add-one r.taken))

lines_run : (s : State) (c : Counts) (room xs : List ℕ) (free : ℕ) → longest_line ≤ free
    → lines s c room xs free ≡ followed room xs free (slice_run s c xs body_room)
unfolding slice_run lines
lines_run s c room [] free h = refl
lines_run s c room (x ∷ xs) free h =
    let s' = state_after s x in
    let c' = counts_after c s x body_room in
    rw (le-ltb free longest_line h)
    (go (verdict_due s x body_room) (slice_run s' c' xs body_room) (lines_run s' c' room xs free h))
  where
    go : (due : Verdict) (r : SliceRun) → lines (state_after s x) (counts_after c s x body_room) room xs free ≡ followed room xs free r
        → behind (answer_line due) (lines (state_after s x) (counts_after c s x body_room) (output_at_flag due room) xs (free - length (answer_line due)))
        ≡ followed room (x ∷ xs) free (end_at due (ended (state_after s x) (counts_after c s x body_room) due) (later r))
    go silent r e =
        ap (λ (k : ℕ). behind [] (lines (state_after s x) (counts_after c s x body_room) room xs k)) (sub-zero free)
        ∙ ap (behind []) e
        ∙ followed_later room x xs free r
    go (refused number) r e = refl
    go (delivered octets) r e = refl

-- ---- the lines so far

-- octets put behind others
puts_both : {before : List ℕ} {start : ℕ} {us : List ℕ} {at : ℕ} {text vs : List ℕ} {next : ℕ} {last : List ℕ}
    → Puts before start us at text → Puts text at vs next last → next ≤ length before → Puts before start (us ++ vs) next last
puts_both {before} {start} {us} {vs = vs} p q h =
    let room : start + length (us ++ vs) ≤ length before = simp length-append (omega (arith, p.ends, q.ends)) in
    let both = last_put (first_put us vs (all_to_put before start refl room) p) q in
    record { ends = both.0; leaves = both.1 }

-- octets were taken up to this rest of the line and their lines put, and the lines of the rest make up the whole
pub record SoFar (whole : Lines) (line first : List ℕ) (s : State) (c : Counts) (room text rest : List ℕ) (at : ℕ) : Type 0 where
  pub within : length rest ≤ length line
  pub ends : at ≤ length first
  pub done : List ℕ
  pub puts : Puts first 0 done at text
  pub makes : whole ≡ after (length line - length rest) done (lines s c room rest (length first - at))

pub none_so_far : (s : State) (c : Counts) (room line first : List ℕ)
    → SoFar (lines s c room line (length first)) line first s c room first line 0
none_so_far s c room line first =
    let l : Lines = lines s c room line (length first) in
    let none : l.taken ≡ l.taken + (length line - length line) = omega arith in
    record {
      within = omega arith;
      ends = omega arith;
      done = [];
      puts = record { ends = refl; leaves = refl };
      makes =
          ap (λ (n : ℕ). record { state = l.state; counts = l.counts; room = l.room; taken = n; text = l.text }) none
          ∙ ap (λ (free : ℕ). after (length line - length line) [] (lines s c room line free)) (sym (sub-zero (length first)));
    }

-- ---- what a call of the receiver adds

pub takes_within : {receiver : Record} {store line room : List ℕ} {given : Taken} {store_after room_after : List ℕ}
    → Takes receiver store line room given store_after room_after → (given.taken ≤ length line) × (0 < length line → 0 < given.taken)
takes_within {receiver} {store} {line} {room} takes = (
  omega (arith, takes.taken, run_within (state_of receiver.rest store) receiver.counts line (length room)),
  λ h. omega (arith, takes.taken, run_moves (state_of receiver.rest store) receiver.counts line (length room) h),
)

module _ (receiver : Record) (store line room : List ℕ) (given : Taken) (store_after room_after : List ℕ)
    (takes : Takes receiver store line room given store_after room_after) (long : length room ≡ body_room) (kept : length room_after ≡ length room) where
  abbrev here : SliceRun
  here = slice_run (state_of receiver.rest store) receiver.counts line body_room

  ran : slice_run (state_of receiver.rest store) receiver.counts line (length room) ≡ here
  ran = rw long

  pub body_fits : BodyWithin given.answer body_room
  body_fits =
      go given.answer here.verdict (takes.answers ∙ ap (λ (r : SliceRun). answer_for r.verdict) ran)
      (takes.puts ∙ ap (λ (r : SliceRun). output_at_flag r.verdict room) ran)
    where
      go : (a : Answer) (v : Verdict) → receiver_answer a ≡ answer_for v → room_after ≡ output_at_flag v room → BodyWithin a body_room
      go None v e f = tt
      go (Some (Err why)) v e f = tt
      go (Some (Ok octets)) silent e f = absurd cc
      go (Some (Ok octets)) (refused number) e f = absurd cc
      go (Some (Ok octets)) (delivered body) e f =
          let n : octets ≡ length body = cc in
          omega (arith, simp length-append at (ap length f))

  pub answer_line_lem : line_of_answer (receiver_answer given.answer) room_after ≡ answer_line here.verdict
  answer_line_lem =
      ap (λ (t : ReceiverAnswer). line_of_answer t room_after) (takes.answers ∙ ap (λ (r : SliceRun). answer_for r.verdict) ran)
      ∙ go here.verdict (takes.puts ∙ ap (λ (r : SliceRun). output_at_flag r.verdict room) ran)
    where
      go : (v : Verdict) → room_after ≡ output_at_flag v room → line_of_answer (answer_for v) room_after ≡ answer_line v
      go silent f = refl
      go (refused number) f = refl
      go (delivered body) f = ap ok_line (rw f (take-append_seam body (drop (length body) room)))

after_after : (m n : ℕ) (us vs : List ℕ) (l : Lines) → after m us (after n vs l) ≡ after (m + n) (us ++ vs) l
after_after m n us vs l =
    let e : l.taken + n + m ≡ l.taken + (m + n) = omega arith in
    let f : us ++ (vs ++ l.text) ≡ us ++ vs ++ l.text = sym (append_assoc us vs l.text) in
    λ i. record { state = l.state; counts = l.counts; room = l.room; taken = e i; text = f i }

-- the receiver took octets, and the line of its answer was put
pub more_so_far : {whole : Lines} {line first : List ℕ} (receiver : Record) (store room : List ℕ) {text rest left : List ℕ} (at : ℕ)
    (given : Taken) (store_after room_after : List ℕ) {next : ℕ} {last : List ℕ}
    → SoFar whole line first (state_of receiver.rest store) receiver.counts room text rest at
    → longest_line ≤ length first - at
    → Takes receiver store rest room given store_after room_after → length room ≡ body_room → length room_after ≡ length room
    → PutsLine text at (line_of_answer (receiver_answer given.answer) room_after) next last → left ≡ drop given.taken rest
    → SoFar whole line first (state_of given.receiver.rest store_after) given.receiver.counts room_after last left next
more_so_far {whole} {line} {first} receiver store room {rest = rest} {left = left} at given store_after room_after {next} so free takes long kept put behind_it =
    let r = slice_run (state_of receiver.rest store) receiver.counts rest body_room in
    let same = ran receiver store rest room given store_after room_after takes long kept in
    let took : r.taken ≡ given.taken = sym (takes.taken ∙ ap (λ (q : SliceRun). q.taken) same) in
    let puts : Puts _ at (answer_line r.verdict) next _ =
    rw (answer_line_lem receiver store rest room given store_after room_after takes long kept) at put.puts in
    let ends : next ≤ length first = omega (arith, put.within, same_long so.puts) in
    let s : r.state ≡ state_of given.receiver.rest store_after = sym (takes.state ∙ ap (λ (q : SliceRun). q.state) same) in
    let c : r.counts ≡ given.receiver.counts = sym (takes.account ∙ ap (λ (q : SliceRun). q.counts) same) in
    let o : output_at_flag r.verdict room ≡ room_after = sym (takes.puts ∙ ap (λ (q : SliceRun). output_at_flag q.verdict room) same) in
    let d : drop r.taken rest ≡ left = ap (λ (n : ℕ). drop n rest) took ∙ sym behind_it in
    let f : length first - at - length (answer_line r.verdict) ≡ length first - next = omega (arith, puts.ends) in
    let long_left : length left ≡ length rest - given.taken = ap length behind_it ∙ length-drop given.taken rest in
    let least : r.taken ≤ length rest = run_within (state_of receiver.rest store) receiver.counts rest body_room in
    let n : length line - length rest + r.taken ≡ length line - length left = omega (arith, took, long_left, least, so.within) in
    record {
      within = omega (arith, long_left, so.within);
      ends = ends;
      done = so.done ++ answer_line r.verdict;
      puts = puts_both so.puts puts ends;
      makes =
          so.makes
          ∙ ap (after (length line - length rest) so.done) (lines_run (state_of receiver.rest store) receiver.counts room rest (length first - at) free)
          ∙ after_after (length line - length rest) r.taken so.done (answer_line r.verdict) _
          ∙ (λ i. after (n i) (so.done ++ answer_line r.verdict) (lines (s i) (c i) (o i) (d i) (f i)));
    }

-- ---- the end

pub slice_ends : (s : State) (c : Counts) (room rest : List ℕ) (free : ℕ) → length rest ≡ 0 → lines s c room rest free ≡ no_lines s c room
unfolding lines
slice_ends s c room [] free h = refl
slice_ends s c room (x ∷ xs) free h = absurd (omega arith)

pub text_full : (s : State) (c : Counts) (room xs : List ℕ) (free : ℕ) → free < longest_line → lines s c room xs free ≡ no_lines s c room
unfolding lines
text_full s c room [] free h = refl
text_full s c room (x ∷ xs) free h = rw (lt-ltb free longest_line h)

pub all_so_far : (receiver : Record) (store room line first rest : List ℕ) (given : Listed) (store_after room_after : List ℕ) {text : List ℕ}
    → SoFar (lines (state_of receiver.rest store) receiver.counts room line (length first)) line first (state_of given.receiver.rest store_after) given.receiver.counts room_after text rest given.written
    → lines (state_of given.receiver.rest store_after) given.receiver.counts room_after rest (length first - given.written)
    ≡ no_lines (state_of given.receiver.rest store_after) given.receiver.counts room_after
    → given.taken ≡ length line - length rest
    → Lists receiver store room line first given store_after room_after text
all_so_far receiver store room line first rest given store_after room_after so none took =
    let n = length line - length rest in
    let e = sym (so.makes ∙ ap (after n so.done) none) in
    let all : so.done ≡ (lines (state_of receiver.rest store) receiver.counts room line (length first)).text =
    sym (append-nil so.done) ∙ ap (λ (l : Lines). l.text) e in
    record {
      state = ap (λ (l : Lines). l.state) e;
      account = ap (λ (l : Lines). l.counts) e;
      holds = ap (λ (l : Lines). l.room) e;
      taken = took ∙ sym (zero-add n) ∙ ap (λ (l : Lines). l.taken) e;
      puts = rw all at so.puts;
      within = so.ends;
    }
