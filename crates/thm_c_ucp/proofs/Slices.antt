-- A line of linked calls, by the octet and by the slice, is a line driven by slices in numbers. Assumes nothing.
use mathlib.Core.Path.{◌≡◌, refl, sym, ap, ap₂, subst, ◌∙◌}
use mathlib.Core.List.{List, [], ◌∷◌, ◌++◌, map, map-append}
use Prim.Native.Nat.{ℕ, zero, suc, ◌<◌}
use native.Mathlib.Omega.{arith}
use lib.ListN.{length, get_or}
use Rattle.crc_polynomial.specs.Polynomial.{Octets}
use Rattle.ucp_frame.specs.Stretch.{Verdict, silent, refused, delivered}
use Rattle.ucp_receiver.specs.declared.Counts.{Counts}
use Rattle.ucp_receiver.specs.declared.Received.{Received}
use Rattle.ucp_receiver.specs.declared.Record.{Record}
use Rattle.ucp_receiver.specs.declared.Rest.{Rest}
use Rattle.ucp_receiver.specs.Answers.{nothing, receiver_answer, answer_for, output_at_flag}
use Rattle.ucp_receiver.specs.Octet.{State, state_after, verdict_due, counts_after, fresh_record, no_octets, Receives}
use Rattle.ucp_receiver.specs.Slice.{SliceRun, slice_run, end_at, Takes}
use Rattle.c_ucp_receiver.specs.Numbers.{phase_number, record_in, record_numbers, answer_in, kind_told, answer_kind, answer_value, OwnNumbers}
use Rattle.c_ucp_receiver.proofs.Numbers.{record_back, takes}
use Rattle.thm_ucp_receiver.specs.Line.{Observed}
use Rattle.thm_ucp_receiver.specs.Slice.{ObservedSlice, SlicesRun, SliceLine, gathered, slice_octets, rooms_of, AllSilent, EndsAsSlice}
use Rattle.thm_ucp_receiver.proofs.Slice.{slice_is_octets, silence_due, slice_flag_clears, slice_is_call}
use Rattle.thm_c_ucp.specs.Receiver.{LinkedCall, LinkedLine, in_numbers}
use Rattle.thm_c_ucp.specs.Slices.{LinkedSlice, LinkedTake, by_octet, by_slice, LinkedTakes, LinkedSliceLine, slice_in_numbers, as_slice, LinkedSliceLines, LinkedSliceTakesAll, LinkedSliceFlagClears, linked_taken, linked_rooms, AllLinkedSilent, LinkedSliceIsCall}
use Rattle.thm_c_ucp.proofs.Receiver.{linked_lines, answer_numbers}

-- ---- an octet is a slice of one

one_octet : (s : State) (c : Counts) (x room : ℕ)
    → slice_run s c (x ∷ []) room ≡ record { state = state_after s x; counts = counts_after c s x room; taken = 1; verdict = verdict_due s x room }
unfolding slice_run
one_octet s c x room = go (verdict_due s x room)
  where
    ended : Verdict → SliceRun
    ended v = record { state = state_after s x; counts = counts_after c s x room; taken = 1; verdict = v }

    go : (v : Verdict) → end_at v (ended v) (ended silent) ≡ ended v
    go silent = refl
    go (refused number) = refl
    go (delivered octets) = refl

octet_taken : (receiver : Record) (store : List ℕ) (x : ℕ) (output : List ℕ) (given : Received) (store_after output_then : List ℕ)
    → Receives receiver store x output given store_after output_then
    → Takes receiver store (x ∷ []) output (record { receiver = given.receiver; answer = given.answer; taken = 1 }) store_after output_then
octet_taken receiver store x output given store_after output_then r =
    let e = sym (one_octet (record { rest = receiver.rest; store = store }) receiver.counts x (length output)) in
    record {
      state = r.state ∙ ap (λ (k : SliceRun). k.state) e;
      account = r.account ∙ ap (λ (k : SliceRun). k.counts) e;
      taken = ap (λ (k : SliceRun). k.taken) e;
      answers = r.answers ∙ ap (λ (k : SliceRun). answer_for k.verdict) e;
      puts = r.puts ∙ ap (λ (k : SliceRun). output_at_flag k.verdict output) e;
    }

one_small : (x : ℕ) → x < 256 → Octets (x ∷ [])
one_small x h zero = h
one_small x h (suc i) = omega arith

-- ---- the calls that the numbers stand for

abbrev slice_in : LinkedSlice → ObservedSlice
slice_in s =
    record {
      line = s.octets;
      output = s.output;
      given = record { receiver = record_in s.line_after; answer = answer_in s.kind s.value; taken = s.taken };
      store_after = s.store_after;
      output_then = s.output_then;
    }

abbrev take_in : LinkedTake → ObservedSlice
take_in t = slice_in (as_slice t)

takes_in : (store line : List ℕ) (ts : List LinkedTake) → LinkedTakes store line ts → SlicesRun (record_in line) store (map take_in ts)
takes_in store line [] r = tt
takes_in store line (by_octet c ∷ ts) r = (
  (
    one_small c.octet r.0.0,
    octet_taken (record_in line) store c.octet c.output
        (record { receiver = record_in c.line_after; answer = answer_in c.kind c.value }) c.store_after c.output_then r.0.1.received,
  ),
  takes_in c.store_after c.line_after ts r.1,
)
takes_in store line (by_slice s ∷ ts) r = ((r.0.0, r.0.1.took), takes_in s.store_after s.line_after ts r.1)

slice_back : (s : LinkedSlice) → OwnNumbers s.line_after s.kind s.value → slice_in_numbers (slice_in s) ≡ s
slice_back s own =
    λ i.
    record {
      octets = s.octets;
      output = s.output;
      kind = sym own.kind i;
      value = sym own.value i;
      taken = s.taken;
      store_after = s.store_after;
      line_after = sym own.line i;
      output_then = s.output_then;
    }

same_slices : (store line : List ℕ) (ts : List LinkedTake) → LinkedTakes store line ts
    → map slice_in_numbers (map take_in ts) ≡ map as_slice ts
same_slices store line [] r = refl
same_slices store line (by_octet c ∷ ts) r =
    λ i. slice_back (as_slice (by_octet c)) r.0.1.written i ∷ same_slices c.store_after c.line_after ts r.1 i
same_slices store line (by_slice s ∷ ts) r =
    λ i. slice_back s r.0.1.written i ∷ same_slices s.store_after s.line_after ts r.1 i

slice_line_in : (ts : List LinkedTake) → LinkedSliceLine ts → SliceLine (map take_in ts)
slice_line_in ts l =
    subst (λ (store : List ℕ). SlicesRun fresh_record store (map take_in ts)) l.starts.0
    (subst (λ (receiver : Record). SlicesRun receiver l.store (map take_in ts)) (ap record_in l.starts.1)
    (takes_in l.store l.line ts l.takes))

-- ---- a line in numbers

abbrev linked_slice : ObservedSlice → LinkedTake
linked_slice s = by_slice (slice_in_numbers s)

numbered : (receiver : Record) (store line : List ℕ) (ss : List ObservedSlice) → record_in line ≡ receiver → SlicesRun receiver store ss
    → LinkedTakes store line (map linked_slice ss)
numbered receiver store line [] e r = tt
numbered receiver store line (s ∷ ss) e r = (
  (
    r.0.0,
    takes (record_numbers s.given.receiver) (answer_kind s.given.answer) (answer_value s.given.answer) s.given.receiver
        s.given.answer refl refl refl line store s.line s.output s.given.taken s.store_after s.output_then
        (subst (λ (k : Record). Takes k store s.line s.output s.given s.store_after s.output_then) (sym e) r.0.1),
  ),
  numbered s.given.receiver s.store_after (record_numbers s.given.receiver) ss (record_back s.given.receiver) r.1,
)

pub linked_slice_lines : LinkedSliceLines
linked_slice_lines =
    record {
      is_line = λ ts l.
          record { slices = map take_in ts; line = slice_line_in ts l; same = same_slices l.store l.line ts l.takes };
      of_line = λ ss l.
          record {
            store = no_octets;
            line = record_numbers fresh_record;
            starts = (refl, refl);
            takes = numbered fresh_record no_octets (record_numbers fresh_record) ss refl l;
          };
    }

-- ---- one call

pub linked_slice_takes_all : LinkedSliceTakesAll
linked_slice_takes_all store line octets output kind value taken store_after line_after output_then t e =
    t.took.taken ∙ (slice_is_octets s (record_in line).counts octets (length output)).all (silence_due run.verdict (sym t.took.answers ∙ nothing_told))
  where
    s : State
    s = record { rest = (record_in line).rest; store = store }

    run : SliceRun
    run = slice_run s (record_in line).counts octets (length output)

    nothing_told : receiver_answer (answer_in kind value) ≡ nothing
    nothing_told = ap (λ (n : ℕ). receiver_answer (answer_in n value)) e

pub linked_slice_flag_clears : LinkedSliceFlagClears
linked_slice_flag_clears store line octets output kind value taken store_after line_after output_then earlier t e =
    let k = slice_flag_clears (record_in line) store octets output _ store_after output_then earlier t.took e in
    let own = t.written.line in (
      k.0,
      ap (λ (l : List ℕ). get_or l 0 0) own ∙ ap (λ (s : Rest). phase_number s.phase) k.1,
      ap (λ (l : List ℕ). get_or l 1 0) own ∙ ap (λ (s : Rest). s.stored) k.1,
    )

-- ---- a call that took an octet

own_slice : (before after : List LinkedTake) (t : LinkedTake) (store line : List ℕ) → LinkedTakes store line (before ++ t ∷ after)
    → OwnNumbers (as_slice t).line_after (as_slice t).kind (as_slice t).value
own_slice [] after (by_octet c) store line r = r.0.1.written
own_slice [] after (by_slice s) store line r = r.0.1.written
own_slice (by_octet c ∷ before) after t store line r = own_slice before after t c.store_after c.line_after r.1
own_slice (by_slice s ∷ before) after t store line r = own_slice before after t s.store_after s.line_after r.1

gathered_in : (f : ObservedSlice → List ℕ) (g : LinkedTake → List ℕ) → ((t : LinkedTake) → f (take_in t) ≡ g t) → (ts : List LinkedTake)
    → gathered f (map take_in ts) ≡ gathered g ts
gathered_in f g same [] = refl
gathered_in f g same (t ∷ ts) = ap₂ (λ (a b : List ℕ). a ++ b) (same t) (gathered_in f g same ts)

map_numbers : (f : LinkedCall → ℕ) (os : List Observed) → map f (map in_numbers os) ≡ map (λ (o : Observed). f (in_numbers o)) os
map_numbers f [] = refl
map_numbers f (o ∷ os) = ap (λ (l : List ℕ). f (in_numbers o) ∷ l) (map_numbers f os)

silent_numbers : (os : List Observed) → AllSilent os → AllLinkedSilent (map in_numbers os)
silent_numbers [] a = tt
silent_numbers (o ∷ os) a = (ap kind_told a.0, silent_numbers os a.1)

pub linked_slice_is_call : LinkedSliceIsCall
linked_slice_is_call before after t l some =
    record {
      earlier = map in_numbers e.earlier;
      quiet = map in_numbers e.quiet;
      last = in_numbers e.last;
      line = subst LinkedLine whole (linked_lines.of_line ((e.earlier ++ e.quiet) ++ e.last ∷ []) e.line);
      octets_before =
          map_numbers (λ (c : LinkedCall). c.octet) e.earlier ∙ e.octets_before
          ∙ gathered_in slice_octets linked_taken (λ u. refl) before;
      octets = gather (λ (c : LinkedCall). c.octet) ∙ e.octets;
      rooms_before =
          map_numbers (λ (c : LinkedCall). length c.output) e.earlier ∙ e.rooms_before
          ∙ gathered_in rooms_of linked_rooms (λ u. refl) before;
      rooms = gather (λ (c : LinkedCall). length c.output) ∙ e.rooms;
      silence = silent_numbers e.quiet e.silence;
      output = e.output;
      kind = same.0 ∙ sym own.kind;
      value = same.1 ∙ sym own.value;
      store_after = e.store_after;
      line_after = ap record_numbers e.receiver ∙ sym own.line;
      output_then = e.output_then;
    }
  where
    e : EndsAsSlice (map take_in before) (take_in t)
    e =
        slice_is_call (map take_in before) (map take_in after) (take_in t)
        (subst SliceLine (map-append take_in before (t ∷ after)) (slice_line_in (before ++ t ∷ after) l)) some

    own : OwnNumbers (as_slice t).line_after (as_slice t).kind (as_slice t).value
    own = own_slice before after t l.store l.line l.takes

    same : (answer_kind e.last.given.answer ≡ answer_kind (take_in t).given.answer)
        × (answer_value e.last.given.answer ≡ answer_value (take_in t).given.answer)
    same = answer_numbers e.last.given.answer (take_in t).given.answer e.answer

    whole : map in_numbers ((e.earlier ++ e.quiet) ++ e.last ∷ [])
        ≡ (map in_numbers e.earlier ++ map in_numbers e.quiet) ++ in_numbers e.last ∷ []
    whole =
        map-append in_numbers (e.earlier ++ e.quiet) (e.last ∷ [])
        ∙ ap (λ (l : List LinkedCall). l ++ in_numbers e.last ∷ []) (map-append in_numbers e.earlier e.quiet)

    gather : (f : LinkedCall → ℕ)
        → map f (map in_numbers e.quiet ++ in_numbers e.last ∷ []) ≡ map (λ (o : Observed). f (in_numbers o)) (e.quiet ++ e.last ∷ [])
    gather f = ap (map f) (sym (map-append in_numbers e.quiet (e.last ∷ []))) ∙ map_numbers f (e.quiet ++ e.last ∷ [])
