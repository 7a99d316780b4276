-- `ucp_writer::fill_left` meets its contract. The loop's invariant: what is left of the frame, put at the present place of
-- the present output, gives the output with all that was left at the start. Assumes nothing.
use Prim.Native.Nat.{◌+◌, ◌*◌}
use lib.ListN.{length, drop}
use lib.Seq.{sets}
use Rattle.ucp_writer.specs.Steps.{frame_rest}
use Rattle.output_writing.proofs.ToPut.{ToPut}
use Rattle.ucp_writer.proofs.fill_left.Given as goal

abbrev pub invariant-loop-word : goal.invariant-loop-word
invariant-loop-word l =
    ToPut l.output l.at (frame_rest l.check (drop (l.word-index * 8) l.octets)) (l.fn.at + length (frame_rest l.fn.check l.octets))
    (sets l.initial.output l.fn.at (frame_rest l.fn.check l.octets))
