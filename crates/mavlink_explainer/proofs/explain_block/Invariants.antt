-- `mavlink_explainer::explain_block` meets its contract. The loop's invariant: walking what is left walks the whole block, behind
-- the lines so far, of which as many octets went out or wait. Assumes nothing.
use Rattle.mavlink_explainer.proofs.Turns.{SoFar}
use Rattle.std.proofs.Common.{◌≡◌, ◌+◌, ◌%◌, ◌^◌, ◌≤◌, length}
use Rattle.mavlink_explainer.proofs.explain_block.Given as goal

abbrev pub invariant-loop-left : goal.invariant-loop-left
invariant-loop-left l =
    (l.count + l.left ≤ length l.block)
    × SoFar l.least l.block l.count l.left ((l.written + l.waiting) % 2 ^ 64)
    × (length l.buffer ≡ length l.initial.buffer)
    × (l.waiting ≤ length l.buffer)

abbrev pub decreases-loop-left : goal.decreases-loop-left
decreases-loop-left l = l.left
