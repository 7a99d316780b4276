-- `line_explainer::explain_block` meets its contract. The loop's invariant: the record behind the block is the one behind the rest of
-- it, from the present record on; its lines are those that went out, those that wait, and those of the rest. Assumes nothing.
use Rattle.std.proofs.Common.{◌≡◌, ℕ, ◌+◌, ◌%◌, ◌^◌, ◌<◌, min, [], length, refl, ◌∙◌, zero-add, arith, length-drop, length-take, rules, tests}
use Rattle.std.proofs.lemmas.Slice.{between_to_end}
use Rattle.ucp_receiver.specs.declared.Counts.{Counts}
use Rattle.ucp_receiver.specs.Octet.{State, state_of}
use Rattle.ucp_receiver.specs.Slice.{slice_run}
use Rattle.text_ucp_listing.specs.Listing.{body_room}
use Rattle.text_ucp_listing.proofs.Runs.{takes_within}
use Rattle.text_ucp_explanation.specs.Explanation.{explanation, every_explanation}
use Rattle.text_ucp_explanation.proofs.Continuation.{takes_onward, takes_text}
use Rattle.io_streams.proofs.Gathering.{gathered_line, makes_up}
use Rattle.io_ucp.proofs.Blocks.{reached_more, reached_last, reached_some, went_more, went_last, waits_some, text_some, done_block}
use Rattle.line_explainer.proofs.explain_block.Goals as goal

no_lines : (s : State) (c : Counts) → every_explanation s c [] ≡ []
unfolding every_explanation
no_lines s c = refl

pub slice_bounds-rest-count : goal.slice_bounds-rest-count
slice_bounds-rest-count c = (takes_within c.explain_next-taken.ensures.takes).0

pub slice_bounds-rest-start : goal.slice_bounds-rest-start
slice_bounds-rest-start c = (takes_within c.explain_next-taken.ensures.takes).0

pub loop-rest-smaller : goal.loop-rest-smaller
loop-rest-smaller c =
    let some : 0 < length c.loop-rest.rest.now = search (rules, tests) in
    let within = takes_within c.explain_next-taken.ensures.takes in
    let moves = within.1 some in
    simp (length-take, length-drop) (omega (arith, within.0, moves, some))

pub returns-in-Err-clause-leaves : goal.returns-in-Err-clause-leaves
returns-in-Err-clause-leaves c =
    let block = c.args.block.now in
    let e = c.explain_next-taken.ensures in
    rw c.block_done.ensures
    (reached_some block _ _ _ _
    (reached_more block _ _ _ _ c.loop-rest.invariant.reached _ _ c.explain_next-taken.result.taken _ (takes_within e.takes).0 (takes_onward e.takes e.long) refl))

pub returns-in-Err-clause-writes_lines : goal.returns-in-Err-clause-writes_lines
returns-in-Err-clause-writes_lines c =
    let l = c.loop-rest in
    let e = c.explain_next-taken.ensures in
    let n : ℕ = c.explain_next-taken.new.page.end in
    let run = slice_run (state_of l.receiver.rest l.store) l.receiver.counts l.rest.now body_room in
    let fails = rw c.in-Err.is at c.gather.ensures in
    let taken = length-take (min n (length l.buffer)) c.explain_next-taken.new.page.room in
    rw c.block_done.ensures
    (text_some every_explanation _ _ _ l.rest.now ((l.written + l.waiting) % 2 ^ 64) l.waiting l.invariant.went
    (explanation run.verdict) _ (takes_text e.takes e.long) (omega (arith, fails.0, taken, e.puts.ends ∙ zero-add _, l.invariant.waits)))

pub loop-rest-preserved : goal.loop-rest-preserved
loop-rest-preserved c =
    let block = c.args.block.now in
    let l = c.loop-rest in
    let rest = l.rest.now in
    let e = c.explain_next-taken.ensures in
    let taken = c.explain_next-taken.result.taken in
    let on = between_to_end rest taken (length rest) (omega arith) in
    let run = slice_run (state_of l.receiver.rest l.store) l.receiver.counts rest body_room in
    -- what waits then is within the buffer, and with what went out it makes up what waited and the line
    let g =
    gathered_line c.explain_next-taken.new.page.room l.waiting c.explain_next-taken.new.page.end (rw c.in-Ok.is at c.gather.ensures) l.invariant.waits
    (omega (arith, e.within, l.invariant.long, c.requires)) (omega (arith, e.within)) in
    let kept = c.gather.auto.buffer in
    let next = c.in-Ok.gathered.octets in
    let n = c.explain_next-taken.new.page.end in
    record {
      long = kept ∙ l.invariant.long;
      waits = omega (arith, g.0, kept);
      reached = reached_more block _ _ _ _ l.invariant.reached _ _ taken _ (takes_within e.takes).0 (takes_onward e.takes e.long) on;
      went = went_more every_explanation _ _ _ rest ((l.written + l.waiting) % 2 ^ 64) l.waiting l.invariant.went _ _ taken n _ next
          (explanation run.verdict) _ (takes_text e.takes e.long) (e.puts.ends ∙ zero-add _)
          (makes_up l.written l.waiting n c.in-Ok.gathered.written next g.1) (omega (arith, g.1)) on;
    }

pub returns : goal.returns
returns c =
    let block = c.args.block.now in
    let l = c.loop-rest in
    let none : length l.rest.now ≡ 0 = search (rules, tests) in
    let waits : min l.waiting (length l.buffer) ≡ l.waiting = omega (arith, l.invariant.waits) in
    let done =
    done_block l.receiver c.write_waiting-output.result l.store block _ _ l.written l.waiting (min l.waiting (length l.buffer)) c.write_waiting-output.ensures waits
    (reached_last block _ _ _ l.rest.now l.invariant.reached none)
    (went_last every_explanation _ _ _ l.rest.now ((l.written + l.waiting) % 2 ^ 64) l.waiting l.invariant.went (no_lines _ _) none)
    (waits_some every_explanation _ _ _ l.rest.now ((l.written + l.waiting) % 2 ^ 64) l.waiting l.invariant.went) in
    rw c.block_done-2.ensures (record { leaves = done.0; writes_lines = done.1 })
