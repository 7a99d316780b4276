-- A run over a slice of the line, from some place of it on. Assumes nothing.
use Rattle.std.proofs.Common.{◌≡◌, ℕ, zero, suc, ◌+◌, ◌<◌, ◌≤◌, List, [], ◌∷◌, ◌++◌, length, length-take-le, get_or, take, drop, take-append-drop, set, sym, refl, ap, ◌∙◌, add-zero, zero-add, add-one, arith, drop-cons, lt-ltb, ne_eqb}
use lib.Seq.{sets}
use Rattle.ucp_frame.specs.Frame.{flag, escape, stuffed}
use Rattle.ucp_frame.specs.Stretch.{Verdict, silent, refused, delivered, store_octets}
use Rattle.ucp_frame.proofs.Stuffing.{plain_first}
use Rattle.ucp_receiver.specs.declared.Phase.{Phase}
use Rattle.ucp_receiver.specs.declared.Phase.TheVariants.{Reading}
use Rattle.ucp_receiver.specs.declared.Rest.{Rest}
use Rattle.ucp_receiver.specs.declared.Record.{Record}
use Rattle.ucp_receiver.specs.declared.Counts.{Counts}
use Rattle.ucp_receiver.specs.declared.Taken.{Taken}
use Rattle.ucp_receiver.specs.Answers.{receiver_answer, answer_for, output_at_flag}
use Rattle.ucp_receiver.specs.Octet.{State, state_after, verdict_due, counts_after, advanced_in, storing, counted_octet, counted_by, state_of}
use Rattle.ucp_receiver.specs.Slice.{SliceRun, slice_run, later, end_at, Takes}
use Rattle.ucp_receiver.specs.Steps.{later_by, StoresPlain, Ignores}

abbrev taken_by : SliceRun → ℕ → SliceRun
taken_by r n = record { state = r.state; counts = r.counts; taken = n; verdict = r.verdict }

pub later_by_later_by : (m n : ℕ) (r : SliceRun) → later_by m (later_by n r) ≡ later_by (m + n) r
later_by_later_by m n r =
    let e : r.taken + n + m ≡ r.taken + (m + n) = omega arith in
    ap (taken_by r) e

-- no octet is taken
pub none_taken : (r : SliceRun) → r ≡ later_by 0 r
none_taken r = ap (taken_by r) (sym (add-zero r.taken))

-- an octet other than the flag
pub other_first : (s s' : State) (c : Counts) (x : ℕ) (xs : List ℕ) (room : ℕ) → (x ≡ flag → ⊥) → advanced_in s.rest.phase x s ≡ s'
    → slice_run s c (x ∷ xs) room ≡ later (slice_run s' (counted_octet s.rest.phase c) xs room)
unfolding slice_run state_after verdict_due counts_after
other_first s s' c x xs room f e =
    rw (ne_eqb x flag f) (ap (λ (t : State). later (slice_run t (counted_octet s.rest.phase c) xs room)) e)

-- n octets counted, and then k
counted_more : (p : Phase) (k n : ℕ) (c : Counts) → counted_by p k (counted_by p n c) ≡ counted_by p (n + k) c
counted_more p zero n c = ap (λ (m : ℕ). counted_by p m c) (sym (add-zero n))
counted_more p (suc k) n c =
    let e : suc (n + k) ≡ n + suc k = omega arith in
    ap (counted_octet p) (counted_more p k n c) ∙ ap (λ (m : ℕ). counted_by p m c) e

-- one octet counted before n more
counted_first : (s : State) (p : Phase) (n : ℕ) (c : Counts) (xs : List ℕ) (room : ℕ)
    → later_by 1 (later_by n (slice_run s (counted_by p n (counted_octet p c)) xs room)) ≡ later_by (suc n) (slice_run s (counted_by p (suc n) c) xs room)
counted_first s p n c xs room =
    let all : 1 + n ≡ suc n = omega arith in
    later_by_later_by 1 n (slice_run s (counted_by p n (counted_octet p c)) xs room)
    ∙ ap (λ (d : Counts). later_by (1 + n) (slice_run s d xs room)) (counted_more p n 1 c)
    ∙ ap (λ (m : ℕ). later_by m (slice_run s (counted_by p m c) xs room)) all

-- octets that are only counted
pub ignored : (s : State) → Ignores s.rest.phase → (n : ℕ) (line : List ℕ) (counts : Counts) (room : ℕ) → n ≤ length line
    → ((i : ℕ) → i < n → get_or line i 0 ≡ flag → ⊥)
    → slice_run s counts line room ≡ later_by n (slice_run s (counted_by s.rest.phase n counts) (drop n line) room)
ignored s ignores zero line counts room h f = none_taken (slice_run s counts line room)
ignored s ignores (suc n) [] counts room h f = absurd (omega arith)
ignored s ignores (suc n) (x ∷ xs) counts room h f =
    other_first s s counts x xs room (f 0 (omega arith)) (ignores x s)
    ∙ ap (later_by 1) (ignored s ignores n xs (counted_octet s.rest.phase counts) room (omega arith) (λ i l. f (suc i) (omega arith)))
    ∙ counted_first s s.rest.phase n counts (drop n xs) room

-- ---- octets that are stored as they are

abbrev reading : ℕ → Rest
reading stored = record { phase = Reading; stored = stored }

stores : (store : List ℕ) (stored x : ℕ) → stored < store_octets → (x ≡ escape → ⊥)
    → advanced_in Reading x (state_of (reading stored) store) ≡ state_of (reading (suc stored)) (set store stored x)
unfolding storing
stores store stored x h e =
    rw (ne_eqb x escape e, lt-ltb stored store_octets h) (ap (λ (k : ℕ). state_of (reading k) (set store stored x)) (add-one stored))

-- those that stuffing leaves as they are
pub plain_run : (xs store : List ℕ) (stored : ℕ) (left : List ℕ) (counts : Counts) (room : ℕ) → stuffed xs ≡ xs → stored + length xs ≤ store_octets
    → slice_run (state_of (reading stored) store) counts (xs ++ left) room
    ≡ later_by (length xs) (slice_run (state_of (reading (stored + length xs)) (sets store stored xs)) (counted_by Reading (length xs) counts) left room)
plain_run [] store stored left counts room e h = rw (add-zero stored) (none_taken (slice_run (state_of (reading stored) store) counts left room))
plain_run (x ∷ xs) store stored left counts room e h =
    let plain = plain_first x xs e in
    let n = length xs in
    let place : suc stored + n ≡ stored + suc n = omega arith in
    let s : ℕ → State = λ k. state_of (reading k) (sets store stored (x ∷ xs)) in
    other_first (state_of (reading stored) store) _ counts x (xs ++ left) room plain.0 (stores store stored x (omega arith) plain.1)
    ∙ ap (later_by 1) (plain_run xs (set store stored x) (suc stored) left (counted_octet Reading counts) room plain.2 (omega arith))
    ∙ counted_first (s (suc stored + n)) Reading n counts left room
    ∙ ap (λ (k : ℕ). later_by (suc n) (slice_run (s k) (counted_by Reading (suc n) counts) left room)) place

-- so many of the line, put behind those that are stored
pub stored_run : (receiver : Record) (store line store_after : List ℕ) (n : ℕ) (counts : Counts) → receiver.rest.phase ≡ Reading
    → StoresPlain store receiver.rest.stored line n store_after → counts ≡ counted_by Reading n receiver.counts → (room : ℕ)
    → slice_run (state_of receiver.rest store) receiver.counts line room
    ≡ later_by n (slice_run (state_of (record { phase = receiver.rest.phase; stored = receiver.rest.stored + n }) store_after) counts (drop n line) room)
stored_run receiver store line store_after n counts p s c room =
    let most : length (take n line) ≡ n = length-take-le n line s.plain.within in
    let run = plain_run (take n line) store receiver.rest.stored (drop n line) receiver.counts room s.plain.plain (omega (arith, s.fits)) in
    rw (p, s.puts, c) (rw (take-append-drop, most) at run)

-- ---- the octet that may bring an answer

-- where the run ends or goes on
later_by_end_at : (n : ℕ) (due : Verdict) (ended goes_on : SliceRun) → later_by n (end_at due ended goes_on) ≡ end_at due (later_by n ended) (later_by n goes_on)
later_by_end_at n silent ended goes_on = refl
later_by_end_at n (refused number) ended goes_on = refl
later_by_end_at n (delivered octets) ended goes_on = refl

abbrev pub ended_by : State → Counts → ℕ → Verdict → SliceRun
ended_by s c n due = record { state = s; counts = c; taken = n; verdict = due }

stepped_first : (s s' : State) (c c' : Counts) (x : ℕ) (xs : List ℕ) (room : ℕ) → s' ≡ state_after s x → c' ≡ counts_after c s x room
    → slice_run s c (x ∷ xs) room ≡ end_at (verdict_due s x room) (ended_by s' c' 1 (verdict_due s x room)) (later (slice_run s' c' xs room))
unfolding slice_run
stepped_first s s' c c' x xs room e d = rw (e, d)

pub stepped : (s s' : State) (c c' : Counts) (line : List ℕ) (n room : ℕ) → n < length line
    → s' ≡ state_after s (get_or line n 0) → c' ≡ counts_after c s (get_or line n 0) room
    → later_by n (slice_run s c (drop n line) room)
    ≡ end_at (verdict_due s (get_or line n 0) room) (ended_by s' c' (n + 1) (verdict_due s (get_or line n 0) room))
    (later_by (n + 1) (slice_run s' c' (drop (n + 1) line) room))
stepped s s' c c' line n room h e d =
    let x = get_or line n 0 in
    let xs = drop (suc n) line in
    let due = verdict_due s x room in
    let k : 1 + n ≡ n + 1 = omega arith in
    ap (λ (l : List ℕ). later_by n (slice_run s c l room)) (drop-cons line n 0 h)
    ∙ ap (later_by n) (stepped_first s s' c c' x xs room e d)
    ∙ later_by_end_at n due (ended_by s' c' 1 due) (later (slice_run s' c' xs room))
    ∙ ap (λ (m : ℕ). end_at due (ended_by s' c' m due) (later_by n (later (slice_run s' c' xs room)))) k
    ∙ ap (end_at due (ended_by s' c' (n + 1) due)) (later_by_later_by n 1 (slice_run s' c' xs room) ∙ ap (λ (m : ℕ). later_by (n + 1) (slice_run s' c' (drop m line) room)) (sym (add-one n)))

-- ---- the loop

-- the slice is used up
pub used_up : (s : State) (counts : Counts) (line : List ℕ) (n room : ℕ) → length line ≡ 0 → later_by n (slice_run s counts line room) ≡ ended_by s counts n silent
unfolding slice_run
used_up s counts [] n room h = ap (λ (k : ℕ). ended_by s counts k silent) (zero-add n)
used_up s counts (x ∷ xs) n room h = absurd (omega arith)

pub takes : (receiver : Record) (store line output : List ℕ) (given : Taken) (store_after output_then : List ℕ) (due : Verdict)
    → slice_run (state_of receiver.rest store) receiver.counts line (length output) ≡ ended_by (state_of given.receiver.rest store_after) given.receiver.counts given.taken due
    → receiver_answer given.answer ≡ answer_for due → output_then ≡ output_at_flag due output
    → Takes receiver store line output given store_after output_then
takes receiver store line output given store_after output_then due e answers puts =
    record {
      state = ap (λ (r : SliceRun). r.state) (sym e);
      account = ap (λ (r : SliceRun). r.counts) (sym e);
      taken = ap (λ (r : SliceRun). r.taken) (sym e);
      answers = answers ∙ ap (λ (r : SliceRun). answer_for r.verdict) (sym e);
      puts = puts ∙ ap (λ (r : SliceRun). output_at_flag r.verdict output) (sym e);
    }
