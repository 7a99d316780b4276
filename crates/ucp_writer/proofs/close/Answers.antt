-- `ucp_writer::close` meets its contract: its three parts stand one behind the other. Assumes nothing.
use mathlib.Core.Path.{◌≡◌, refl, ap}
use Prim.Native.Nat.{ℕ, ◌+◌, ◌/◌, ◌%◌}
use native.Mathlib.Omega.{arith}
use lib.ListN.{length, length-append}
use Rattle.ucp_frame.specs.Frame.{escaped}
use Rattle.ucp_writer.specs.Steps.{frame_end}
use Rattle.ucp_stuffing.proofs.Both.{both}
use Rattle.ucp_writer.proofs.Rest.{closing_octets}
use Rattle.ucp_writer.proofs.close.Goals as goal

size : (check : ℕ) → length (frame_end check) ≡ length (escaped (check % 256)) + (length (escaped (check / 256)) + 1)
size check = simp length-append at (ap length (closing_octets check))

pub put-next-requires : goal.put-next-requires
put-next-requires c = omega (arith, size c.args.check, c.requires)

pub put-last-requires : goal.put-last-requires
put-last-requires c = omega (arith, size c.args.check, c.requires, c.put-next.ensures.ends, c.put-next.auto.output)

pub bounds-output-last : goal.bounds-output-last
bounds-output-last c =
    omega (arith, size c.args.check, c.requires, c.put-next.ensures.ends, c.put-next.auto.output, c.put-last.ensures.ends, c.put-last.auto.output)

pub overflow_add-result : goal.overflow_add-result
overflow_add-result c =
    omega (arith, size c.args.check, c.requires, c.put-next.ensures.ends, c.put-last.ensures.ends)

pub returns : goal.returns
returns c =
    rw (closing_octets c.args.check) (both c.put-next.ensures (both c.put-last.ensures (record { ends = refl; leaves = refl })))
