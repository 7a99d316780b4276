-- `text_ucp_listing::list_some` meets its contract. The loop's invariant: the lines so far, with those of the octets that are left,
-- make up the whole. Assumes nothing.
use mathlib.Core.Path.{subst}
use mathlib.Core.List.{List}
use Rattle.std.proofs.Common.{◌≡◌, ℕ, ◌<◌, length, refl, arith, length-take, length-drop, rules, tests}
use Rattle.std.proofs.lemmas.Slice.{between_to_end}
use Rattle.ucp_receiver.specs.Octet.{state_of}
use Rattle.text_ucp_listing.specs.Steps.{PutsLine}
use Rattle.text_ucp_listing.proofs.Whole.{same_long}
use Rattle.text_ucp_listing.proofs.Runs.{more_so_far, takes_within, slice_ends, text_full, all_so_far}
use Rattle.text_ucp_listing.proofs.list_some.Goals as goal
use Rattle.text_ucp_listing.proofs.list_some.Goals.{then-loop-store-test+else-text-at-ge1317, else-loop-store-test}

-- a line at the same place, however that is counted
placed : {before line after : List ℕ} {place at next : ℕ} → place ≡ at → PutsLine before place line next after → PutsLine before at line next after
placed {before} {line} {after} {next = next} e put = subst (λ (n : ℕ). PutsLine before n line next after) e put

pub slice_bounds-rest-count : goal.slice_bounds-rest-count
slice_bounds-rest-count c = (takes_within c.receive_slice-t.ensures).0

pub slice_bounds-rest-start : goal.slice_bounds-rest-start
slice_bounds-rest-start c = (takes_within c.receive_slice-t.ensures).0

pub loop-store-smaller : goal.loop-store-smaller
loop-store-smaller c =
    let t = takes_within c.receive_slice-t.ensures in
    let some : 0 < length c.loop-store.rest.now = search (rules, tests) in
    simp (length-take, length-drop) (omega (arith, t.0, t.1 some))

pub loop-store-preserved : goal.loop-store-preserved
loop-store-preserved c =
    let l = c.loop-store in
    let t = c.receive_slice-t in
    more_so_far l.receiver l.store l.room l.at t.result _ _
    l.invariant (omega (arith, l.invariant.ends, same_long l.invariant.puts)) t.ensures (search rules) t.auto.output (placed (omega arith) c.put_answer-at.ensures)
    (between_to_end l.rest.now t.result.taken (length l.rest.now) (omega arith))

pub returns : goal.returns
returns c =
    let l = c.loop-store in
    let a = c.args in
    all_so_far a.receiver a.store.now a.room.now a.line.now a.text.now l.rest.now _ l.store l.room l.invariant
    (elim c.loop-store-test.branch [
      | then-loop-store-test+else-text-at-ge1317 w ↦ text_full (state_of l.receiver.rest l.store) l.receiver.counts l.room l.rest.now _ (omega (arith, w.if-text-at-ge1317.false, same_long l.invariant.puts))
      | else-loop-store-test w ↦ slice_ends (state_of l.receiver.rest l.store) l.receiver.counts l.room l.rest.now _ (search (rules, tests))
    ])
    refl
