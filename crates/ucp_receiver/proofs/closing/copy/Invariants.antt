-- `ucp_receiver::closing::copy` meets its contract. The loop's invariant: the first i octets are those of the other slice, and the rest
-- are as they were. Assumes nothing.
use Rattle.std.proofs.Common.{◌≡◌, ◌++◌, length, take, drop}
use Rattle.ucp_receiver.proofs.closing.copy.Given as goal

abbrev pub invariant-loop-i : goal.invariant-loop-i
invariant-loop-i l = (length l.output ≡ length l.initial.output) × (l.output ≡ take l.i l.octets ++ drop l.i l.initial.output)
