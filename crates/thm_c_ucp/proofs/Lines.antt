-- Every list of octets and slices is the line of the linked calls that answer as they must. Assumes nothing.
use mathlib.Core.Path.{◌≡◌, refl, ap, ◌∙◌}
use mathlib.Core.List.{List, [], ◌∷◌, map}
use Prim.Native.Nat.{ℕ}
use lib.ListN.{length}
use Rattle.ucp_receiver.specs.Answers.{output_at_flag}
use Rattle.ucp_receiver.specs.Octet.{State, fresh_record, no_octets}
use Rattle.ucp_receiver.specs.declared.Counts.{Counts}
use Rattle.ucp_receiver.specs.Slice.{SliceRun, slice_run, Takes}
use Rattle.c_ucp_receiver.specs.Numbers.{rest_in, counts_in, record_in, record_numbers, answer_kind, answer_value}
use Rattle.c_ucp_receiver.proofs.Numbers.{receives, takes}
use Rattle.thm_ucp_receiver.specs.Line.{Observed}
use Rattle.thm_ucp_receiver.specs.Lines.{Handed, handed_to}
use Rattle.thm_ucp_receiver.specs.Slice.{ObservedSlice}
use Rattle.thm_ucp_receiver.proofs.Answered.{run_told}
use Rattle.thm_ucp_receiver.proofs.Lines.{called, called_receives, every_line}
use Rattle.thm_c_ucp.specs.Receiver.{in_numbers}
use Rattle.thm_c_ucp.specs.Slices.{LinkedTake, by_octet, by_slice, LinkedTakes, slice_in_numbers}
use Rattle.thm_c_ucp.specs.Lines.{handed_to_linked, HandedTake, an_octet, a_slice, handed_take, AllOctets, EveryLinkedLine}
use Rattle.thm_c_ucp.proofs.Receiver.{linked_lines}

-- ---- by the octet
same_handed : (os : List Observed) → map handed_to_linked (map in_numbers os) ≡ map handed_to os
same_handed [] = refl
same_handed (o ∷ os) = ap (λ (hs : List Handed). handed_to o ∷ hs) (same_handed os)

-- ---- by the octet and by the slice
-- the call with a slice that the contract asks for
abbrev sliced : State → Counts → List ℕ → List ℕ → ObservedSlice
sliced s c xs output =
    let r : SliceRun = slice_run s c xs (length output) in
    record {
      line = xs;
      output = output;
      given = record {
        receiver = record { rest = r.state.rest; counts = r.counts };
        answer = (run_told s c xs (length output)).answer;
        taken = r.taken;
      };
      store_after = r.state.store;
      output_then = output_at_flag r.verdict output;
    }

record TakesOver (store line : List ℕ) (given : List HandedTake) : Type 0 where
  calls : List LinkedTake
  met : LinkedTakes store line calls
  same : map handed_take calls ≡ given

takes_over : (store line : List ℕ) (given : List HandedTake) → AllOctets given → TakesOver store line given
takes_over store line [] small = record { calls = []; met = tt; same = refl }
takes_over store line (an_octet x output ∷ ts) small =
    let s : State = record { rest = rest_in line; store = store } in
    let h : Handed = record { octet = x; output = output } in
    let o : Observed = called s (counts_in line) h in
    let rest = takes_over o.store_after (record_numbers o.given.receiver) ts small.1 in
    record {
      calls = by_octet (in_numbers o) ∷ rest.calls;
      met = (
        (
          small.0 0,
          receives (record_numbers o.given.receiver) (answer_kind o.given.answer) (answer_value o.given.answer) o.given.receiver
              o.given.answer refl refl refl line store x output o.store_after o.output_then (called_receives s (counts_in line) h),
        ),
        rest.met,
      );
      same = ap (λ (hs : List HandedTake). an_octet x output ∷ hs) rest.same;
    }
takes_over store line (a_slice xs output ∷ ts) small =
    let s : State = record { rest = rest_in line; store = store } in
    let o : ObservedSlice = sliced s (counts_in line) xs output in
    let rest = takes_over o.store_after (record_numbers o.given.receiver) ts small.1 in
    let taken : Takes (record_in line) store xs output o.given o.store_after o.output_then =
    record { state = refl; account = refl; taken = refl; answers = (run_told s (counts_in line) xs (length output)).tells; puts = refl } in
    record {
      calls = by_slice (slice_in_numbers o) ∷ rest.calls;
      met = (
        (
          small.0,
          takes (record_numbers o.given.receiver) (answer_kind o.given.answer) (answer_value o.given.answer) o.given.receiver
              o.given.answer refl refl refl line store xs output o.given.taken o.store_after o.output_then taken,
        ),
        rest.met,
      );
      same = ap (λ (hs : List HandedTake). a_slice xs output ∷ hs) rest.same;
    }

pub every_linked_line : EveryLinkedLine
every_linked_line =
    record {
      by_octets = λ given small.
          let l = every_line given small in
          record { calls = map in_numbers l.calls; line = linked_lines.of_line l.calls l.line; same = same_handed l.calls ∙ l.same };
      by_slices = λ given small.
          let t = takes_over no_octets (record_numbers fresh_record) given small in
          record { calls = t.calls; line = record { store = no_octets; line = record_numbers fresh_record; starts = (refl, refl); takes = t.met }; same = t.same };
    }
