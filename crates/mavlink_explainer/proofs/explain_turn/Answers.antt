-- `mavlink_explainer::explain_turn` meets its contract. Assumes nothing.
use Rattle.std.proofs.Common.{ℕ, Bool, take, sym, ◌∙◌, subst, arith, length-take, length-take-le}
use Rattle.io_streams.specs.Turns.{BlockTurns}
use Rattle.mavlink_explainer.specs.Blocks.{Explores}
use Rattle.mavlink_explainer.proofs.Turns.{held_carried}
use Rattle.mavlink_explainer.proofs.explain_turn.Goals as goal

pub slice_bounds-explain_block-end-2 : goal.slice_bounds-explain_block-end-2
slice_bounds-explain_block-end-2 c = sym (length-take-le _ _ c.requires.1)

pub overflow_sub-end : goal.overflow_sub-end
overflow_sub-end c = omega (arith, simp length-take at c.explain_block-progress.ensures.leaves.within)

pub carry-requires : goal.carry-requires
carry-requires c = (omega (arith, simp length-take at c.explain_block-progress.ensures.leaves.within), c.requires.1)

pub shape_of-block : goal.shape_of-block
shape_of-block c = c.next_turn-next.auto.block ∙ c.carry.auto.block

pub shape_of-buffer : goal.shape_of-buffer
shape_of-buffer c = c.explain_block-progress.auto.buffer

pub returns : goal.returns
returns c =
    let a = c.args in
    let e = c.explain_block-progress in
    let n = c.next_turn-next in
    let block = a.block.now in
    record {
      explores = subst (λ (b : Bool). Explores b (take a.turn.octets block) a.frames a.bytes e.result) c.has_ended-last.ensures e.ensures;
      carried = held_carried block _ _ a.turn.octets e.result.left (omega (arith, simp length-take at c.explain_block-progress.ensures.leaves.within)) c.requires.1 c.carry.ensures n.ensures.keeps_held;
      follows = subst (λ (k : ℕ). BlockTurns e.result.input a.turn.left k e.result.left n.result) c.carry.auto.block n.ensures.block_turns;
    }
