-- The measure is how many calls are left.
use Rattle.io_streams.proofs.+clear_below.Given as goal

abbrev pub decreases-clear_below : goal.decreases-clear_below
decreases-clear_below l = l.times
