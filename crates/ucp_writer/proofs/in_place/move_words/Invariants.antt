-- `ucp_writer::in_place::move_words` meets its contract. The loop's invariant: the octets that are left, moved in the present buffer,
-- give the buffer with all of them. Assumes nothing.
use Prim.Native.Nat.{◌+◌, ◌*◌}
use lib.ListN.{take}
use lib.Seq.{sets}
use Rattle.ucp_frame.specs.Frame.{stuffed}
use Rattle.ucp_writer.specs.Steps.{ToMove}
use Rattle.ucp_writer.proofs.in_place.move_words.Given as goal

abbrev pub invariant-loop-word : goal.invariant-loop-word
invariant-loop-word l = ToMove l.buffer (l.first + l.word * 8) l.end (sets l.initial.buffer 1 (stuffed (take l.octets l.initial.buffer)))
