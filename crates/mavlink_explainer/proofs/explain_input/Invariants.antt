-- `mavlink_explainer::explain_input` meets its contract: each turn leaves fewer, and what is lent keeps its length. Assumes nothing.
use Rattle.std.proofs.Common.{◌≡◌, ◌≤◌, length}
use Rattle.mavlink_explainer.specs.Blocks.{FramesRun}
use Rattle.mavlink_explainer.proofs.explain_input.Given as goal

abbrev pub invariant-loop-turn : goal.invariant-loop-turn
invariant-loop-turn l = (length l.block ≡ length l.initial.block) × (l.turn.octets ≤ length l.block) × (length l.buffer ≡ length l.initial.buffer) × FramesRun l.frames l.bytes l.block l.turn

abbrev pub decreases-loop-turn : goal.decreases-loop-turn
decreases-loop-turn l = l.turn.left
