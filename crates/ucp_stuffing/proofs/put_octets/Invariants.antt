-- `ucp_stuffing::put_octets` meets its contract. The loop's invariant: the octets that are left, put at the present place of the
-- present output, give the output with all of them. Assumes nothing.
use Prim.Native.Nat.{◌+◌}
use lib.ListN.{length, drop}
use lib.Seq.{sets}
use Rattle.ucp_frame.specs.Frame.{stuffed}
use Rattle.output_writing.proofs.ToPut.{ToPut}
use Rattle.ucp_stuffing.proofs.put_octets.Given as goal

abbrev pub invariant-loop-octet : goal.invariant-loop-octet
invariant-loop-octet l =
    ToPut l.output l.at (stuffed (drop l.octet-index l.octets)) (l.fn.at + length (stuffed l.octets)) (sets l.initial.output l.fn.at (stuffed l.octets))
