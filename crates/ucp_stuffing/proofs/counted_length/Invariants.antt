-- `ucp_stuffing::counted_length` meets its contract. The loop's invariant: the count and the octets left, stuffed, make up the
-- whole. Assumes nothing.
use mathlib.Core.Path.{◌≡◌}
use Prim.Native.Nat.{◌+◌}
use lib.ListN.{length, drop}
use Rattle.ucp_frame.specs.Frame.{stuffed}
use Rattle.ucp_stuffing.proofs.counted_length.Given as goal

abbrev pub invariant-loop-octet : goal.invariant-loop-octet
invariant-loop-octet l = l.count + length (stuffed (drop l.octet-index l.octets)) ≡ length (stuffed l.octets)
