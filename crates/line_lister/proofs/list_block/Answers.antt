-- `line_lister::list_block` meets its contract. The loop's invariant: the record behind the block is the one behind the rest of it,
-- from the present record on; its lines are those that went out and those of the rest. Assumes nothing.
use Rattle.std.proofs.Common.{◌≡◌, ◌<◌, min, [], length, refl, ◌∙◌, zero-add, arith, length-take, length-drop, rules, tests}
use Rattle.std.proofs.lemmas.Slice.{between_to_end}
use Rattle.ucp_receiver.specs.declared.Counts.{Counts}
use Rattle.ucp_receiver.specs.Octet.{State, state_of}
use Rattle.text_ucp_listing.specs.Lists.{lines, every_line}
use Rattle.text_ucp_listing.proofs.Whole.{same_long}
use Rattle.text_ucp_listing.proofs.Slices.{lists_within, lists_moves, lists_onward, lists_text}
use Rattle.io_ucp.proofs.Blocks.{reached_more, reached_last, reached_some, went_more, went_last, text_some}
use Rattle.line_lister.proofs.list_block.Goals as goal

no_lines : (s : State) (c : Counts) → every_line s c [] ≡ []
unfolding every_line
no_lines s c = refl

pub slice_bounds-rest-count : goal.slice_bounds-rest-count
slice_bounds-rest-count c = lists_within c.list_some-listed.ensures

pub slice_bounds-rest-start : goal.slice_bounds-rest-start
slice_bounds-rest-start c = lists_within c.list_some-listed.ensures

pub loop-rest-smaller : goal.loop-rest-smaller
loop-rest-smaller c =
    let l = c.loop-rest in
    let e = c.list_some-listed.ensures in
    let some : 0 < length l.rest.now = search (rules, tests) in
    let least = lists_within e in
    let moves = lists_moves e (omega (arith, l.invariant.long, c.requires)) some in
    simp (length-take, length-drop) (omega (arith, least, moves, some))

pub returns-in-Err-clause-leaves : goal.returns-in-Err-clause-leaves
returns-in-Err-clause-leaves c =
    let block = c.args.block.now in
    let l = c.loop-rest in
    let e = c.list_some-listed.ensures in
    rw c.block_done.ensures
    (reached_some block _ _ _ _
    (reached_more block _ _ _ _ l.invariant.reached _ _ c.list_some-listed.result.taken _ (lists_within e) (lists_onward e) refl))

pub returns-in-Err-clause-writes_lines : goal.returns-in-Err-clause-writes_lines
returns-in-Err-clause-writes_lines c =
    let l = c.loop-rest in
    let e = c.list_some-listed.ensures in
    let fails : 0 < min c.list_some-listed.result.written (length c.list_some-listed.new.text) = rw c.in-Err.is at c.write_lines.ensures in
    rw c.block_done.ensures
    (text_some every_line _ _ _ l.rest.now l.written 0 l.invariant.went
    (lines (state_of l.receiver.rest l.store) l.receiver.counts l.room l.rest.now (length l.text)).text _
    (lists_text e) (omega (arith, fails, e.puts.ends ∙ zero-add _)))

pub loop-rest-preserved : goal.loop-rest-preserved
loop-rest-preserved c =
    let block = c.args.block.now in
    let l = c.loop-rest in
    let rest = l.rest.now in
    let e = c.list_some-listed.ensures in
    let taken = c.list_some-listed.result.taken in
    let on = between_to_end rest taken (length rest) (omega arith) in
    let n : c.in-Ok.n ≡ min c.list_some-listed.result.written (length c.list_some-listed.new.text) = rw c.in-Ok.is at c.write_lines.ensures in
    -- as many octets went out as the turn's lines have
    let out : c.in-Ok.n ≡ c.list_some-listed.result.written = omega (arith, n, e.within, same_long e.puts) in
    record {
      long = same_long e.puts ∙ l.invariant.long;
      reached = reached_more block _ _ _ _ l.invariant.reached _ _ taken _ (lists_within e) (lists_onward e) on;
      went = went_more every_line _ _ _ rest l.written 0 l.invariant.went _ _ taken c.in-Ok.n _ 0
          (lines (state_of l.receiver.rest l.store) l.receiver.counts l.room rest (length l.text)).text _
          (lists_text e) (out ∙ e.puts.ends ∙ zero-add _) refl (omega arith) on;
    }

pub returns-clause-leaves : goal.returns-clause-leaves
returns-clause-leaves c =
    let l = c.loop-rest in
    let none : length l.rest.now ≡ 0 = search (rules, tests) in
    rw c.block_done-2.ensures (reached_last c.args.block.now _ _ _ l.rest.now l.invariant.reached none)

pub returns-clause-writes_lines : goal.returns-clause-writes_lines
returns-clause-writes_lines c =
    let l = c.loop-rest in
    let none : length l.rest.now ≡ 0 = search (rules, tests) in
    rw c.block_done-2.ensures (went_last every_line _ _ _ l.rest.now l.written 0 l.invariant.went (no_lines _ _) none)
