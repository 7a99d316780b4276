-- `ucp_meanings::degrees_e7` meets its contract. Assumes nothing.
use native.Mathlib.Omega.{arith}
use lib.IntN.{pos, ◌*ℤ◌}
use lib.Signed.{quot_z}
use mir.Syntax.{w32, w64}
use mir.ValLaws.{to_z-of_z}
use Rattle.ucp_meanings.specs.Meanings.{degrees_e7}
use Rattle.ucp_meanings.proofs.Scaled.{wider, scaled_fits, steps_fit}
use Rattle.ucp_meanings.proofs.degrees_e7.Goals as goal

pub returns : goal.returns
unfolding degrees_e7
returns c =
    let z = c.args.number in
    let f = c.ranges.number in
    let scaled = z *ℤ pos 1800000000 in
    rw (to_z-of_z w32 z f, to_z-of_z w64 z (wider z f), to_z-of_z w64 (z *ℤ pos 1800000000) (scaled_fits z f))
    (to_z-of_z w64 (quot_z scaled (pos 8388608)) (steps_fit scaled (scaled_fits z f)))
