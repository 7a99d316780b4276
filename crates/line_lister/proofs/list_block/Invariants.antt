-- `line_lister::list_block` meets its contract. The loop's invariant: the record behind the block is the one behind the rest of it,
-- from the present record on; its lines are those that went out and those of the rest. Assumes nothing.
use Rattle.std.proofs.Common.{◌≡◌, length}
use Rattle.ucp_receiver.specs.Octet.{state_of}
use Rattle.text_ucp_listing.specs.Lists.{behind_all, every_line}
use Rattle.io_ucp.proofs.Blocks.{Reached, WentOut}
use Rattle.line_lister.proofs.list_block.Given as goal

abbrev pub invariant-loop-rest : goal.invariant-loop-rest
invariant-loop-rest l =
    record {
      long : length l.text ≡ length l.initial.text;
      reached : Reached l.block (behind_all (state_of l.initial.receiver.rest l.initial.store) l.initial.receiver.counts l.block) (state_of l.receiver.rest l.store) l.receiver.counts l.rest;
      went : WentOut every_line (every_line (state_of l.initial.receiver.rest l.initial.store) l.initial.receiver.counts l.block) (state_of l.receiver.rest l.store) l.receiver.counts l.rest l.written 0;
    }

abbrev pub decreases-loop-rest : goal.decreases-loop-rest
decreases-loop-rest l = length l.rest
