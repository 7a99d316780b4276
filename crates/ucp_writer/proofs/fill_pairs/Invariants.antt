-- `ucp_writer::fill_pairs` meets its contract. The loop's invariant: what is left of the frame, put at the present place of
-- the present output, gives the output with all that was left at the start. Assumes nothing.
use Prim.Native.Nat.{◌+◌, ◌*◌}
use lib.ListN.{length, drop}
use lib.Seq.{sets}
use Rattle.ucp_writer.specs.Steps.{frame_rest}
use Rattle.output_writing.proofs.ToPut.{ToPut}
use Rattle.ucp_writer.proofs.fill_pairs.Given as goal

abbrev pub invariant-loop-pair : goal.invariant-loop-pair
invariant-loop-pair l =
    ToPut l.output l.at (frame_rest l.check (drop (l.pair-index * 2) l.octets)) (l.fn.at + length (frame_rest l.fn.check l.octets))
    (sets l.initial.output l.fn.at (frame_rest l.fn.check l.octets))
