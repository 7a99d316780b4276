-- `line_explainer::explain_block` meets its contract. The loop's invariant: the record behind the block is the one behind the rest of
-- it, from the present record on; its lines are those that went out, those that wait, and those of the rest. Assumes nothing.
use Rattle.std.proofs.Common.{◌≡◌, ◌+◌, ◌%◌, ◌^◌, ◌≤◌, length}
use Rattle.ucp_receiver.specs.Octet.{state_of}
use Rattle.text_ucp_listing.specs.Lists.{behind_all}
use Rattle.text_ucp_explanation.specs.Explanation.{every_explanation}
use Rattle.io_ucp.proofs.Blocks.{Reached, WentOut}
use Rattle.line_explainer.proofs.explain_block.Given as goal

abbrev pub invariant-loop-rest : goal.invariant-loop-rest
invariant-loop-rest l =
    record {
      long : length l.buffer ≡ length l.initial.buffer;
      waits : l.waiting ≤ length l.buffer;
      reached : Reached l.block (behind_all (state_of l.initial.receiver.rest l.initial.store) l.initial.receiver.counts l.block) (state_of l.receiver.rest l.store) l.receiver.counts l.rest;
      went : WentOut every_explanation (every_explanation (state_of l.initial.receiver.rest l.initial.store) l.initial.receiver.counts l.block) (state_of l.receiver.rest l.store) l.receiver.counts l.rest ((l.written + l.waiting) % 2 ^ 64) l.waiting;
    }

abbrev pub decreases-loop-rest : goal.decreases-loop-rest
decreases-loop-rest l = length l.rest
