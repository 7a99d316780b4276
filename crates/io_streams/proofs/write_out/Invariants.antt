-- `io_streams::write_out` ends: each turn writes some of what is left. Where nothing was to be written nothing is left at the start.
-- Assumes nothing.
use Rattle.std.proofs.Common.{◌≡◌, length}
use Rattle.io_streams.proofs.write_out.Given as goal

abbrev pub invariant-loop-rest : goal.invariant-loop-rest
invariant-loop-rest l = length l.text ≡ 0 → length l.rest ≡ 0

abbrev pub decreases-loop-rest : goal.decreases-loop-rest
decreases-loop-rest l = length l.rest
