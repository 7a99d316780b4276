-- `ucp_stuffing::stuffed_length` meets its contract. The loop's invariant: the count and the octets left, stuffed, make up the
-- whole. Assumes nothing.
use mathlib.Core.Path.{◌≡◌}
use Prim.Native.Nat.{◌+◌, ◌*◌}
use lib.ListN.{length, drop}
use Rattle.ucp_frame.specs.Frame.{stuffed}
use Rattle.ucp_stuffing.proofs.stuffed_length.Given as goal

abbrev pub invariant-loop-word : goal.invariant-loop-word
invariant-loop-word l = l.count + length (stuffed (drop (l.word-index * 8) l.body)) ≡ length (stuffed l.body)
