-- `ucp_writer::room::frame_length` meets its contract. Assumes nothing.
use native.Mathlib.Omega.{arith}
use Prim.Native.Nat.{◌/◌, ◌%◌}
use Rattle.ucp_frame.proofs.Stuffing.{escaped_length}
use Rattle.ucp_frame.proofs.Frame.{frame_length_longest}
use Rattle.ucp_writer.proofs.room.Length.{frame_length}
use Rattle.ucp_writer.proofs.room.frame_length.Goals as goal

pub overflow_add-around : goal.overflow_add-around
overflow_add-around c = omega (arith, escaped_length (c.frame_check-check.result % 256))

pub overflow_add-around-2 : goal.overflow_add-around-2
overflow_add-around-2 c =
    let check = c.frame_check-check.result in
    omega (arith, escaped_length (check % 256), escaped_length (check / 256))

-- the two parts make up the frame
pub returns : goal.returns
returns c =
    let k = c.frame_check-check in
    omega (arith, frame_length c.args.body.now k.result k.ensures)

pub overflow_add-result : goal.overflow_add-result
overflow_add-result c =
    omega (arith, returns c, frame_length_longest c.args.body.now c.requires)
