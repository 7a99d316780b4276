-- `ucp_receiver::slice::receive_slice` meets its contract. The loop's invariant: the run over the slice is the run over the rest of it,
-- behind the octets taken so far, and nothing was put out. Assumes nothing.
use Rattle.std.proofs.Common.{◌≡◌, ◌-◌, ◌≤◌, length}
use Rattle.ucp_receiver.specs.Octet.{state_of}
use Rattle.ucp_receiver.specs.Slice.{slice_run}
use Rattle.ucp_receiver.specs.Steps.{later_by}
use Rattle.ucp_receiver.proofs.slice.receive_slice.Given as goal

abbrev pub invariant-loop-rest : goal.invariant-loop-rest
invariant-loop-rest l =
    record {
      within : length l.rest ≤ length l.line;
      quiet : l.output ≡ l.initial.output;
      runs : slice_run (state_of l.initial.receiver.rest l.initial.store) l.initial.receiver.counts l.line (length l.initial.output)
          ≡ later_by (length l.line - length l.rest) (slice_run (state_of l.receiver.rest l.store) l.receiver.counts l.rest (length l.initial.output));
    }

abbrev pub decreases-loop-rest : goal.decreases-loop-rest
decreases-loop-rest l = length l.rest
