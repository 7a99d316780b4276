-- `line_explainer::explain_input` meets its contract and ends: each turn goes on from what the one before left, and leaves fewer. Assumes
-- nothing.
use Rattle.std.proofs.Common.{◌≡◌, ◌≤◌, length}
use Rattle.ucp_receiver.specs.Account.{zero_counts}
use Rattle.ucp_receiver.specs.Octet.{state_of, fresh_rest}
use Rattle.text_ucp_explanation.specs.Explanation.{every_explanation}
use Rattle.io_streams.specs.Turns.{UnlessFailed}
use Rattle.io_streams.proofs.Turns.{NoneLeft}
use Rattle.io_ucp.specs.Records.{Passed}
use Rattle.line_explainer.proofs.explain_input.Given as goal

abbrev pub invariant-loop-turn : goal.invariant-loop-turn
invariant-loop-turn l =
    (length l.block ≡ length l.initial.block) × (length l.buffer ≡ length l.initial.buffer) × (l.turn.octets ≤ length l.block) × NoneLeft l.turn.input l.turn.left
    × UnlessFailed l.turn.input (Passed every_explanation (state_of fresh_rest l.initial.store) zero_counts l.octets l.written (record { state = state_of l.receiver.rest l.store; counts = l.receiver.counts }))

abbrev pub decreases-loop-turn : goal.decreases-loop-turn
decreases-loop-turn l = l.turn.left
