-- `ucp_writer::in_place::move_octets` meets its contract. The loop's invariant: the octets that are left, moved in the present buffer,
-- give the buffer with all of them. Assumes nothing.
use Prim.Native.Nat.{◌≤◌}
use lib.ListN.{take}
use lib.Seq.{sets}
use Rattle.ucp_frame.specs.Frame.{stuffed}
use Rattle.ucp_writer.specs.Steps.{ToMove}
use Rattle.ucp_writer.proofs.in_place.move_octets.Given as goal

abbrev pub invariant-loop-at : goal.invariant-loop-at
invariant-loop-at l =
    (l.from ≤ l.at) × ToMove l.buffer l.at l.end (sets l.initial.buffer 1 (stuffed (take l.octets l.initial.buffer)))
