-- `ucp_writer::room::admit` meets its contract: where there is room for the most that a frame takes, this one has room. Assumes nothing.
use native.Mathlib.Omega.{arith}
use Rattle.ucp_frame.proofs.Frame.{frame_length_most}
use Rattle.ucp_writer.proofs.room.admit.Goals as goal

pub returns-else-output-most : goal.returns-else-output-most
returns-else-output-most c =
    let ok = c.in_ok-admit_length.ensures in
    (ok.0, ok.1, omega (arith, frame_length_most c.args.body.now))
