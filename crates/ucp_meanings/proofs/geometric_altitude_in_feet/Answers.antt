-- `ucp_meanings::geometric_altitude_in_feet` meets its contract. Assumes nothing.
use native.Mathlib.Omega.{arith}
use lib.IntN.{pos, ◌*ℤ◌}
use mir.Syntax.{w16, w32}
use mir.ValLaws.{to_z-of_z}
use Rattle.field_signed.proofs.Negative.{wider}
use Rattle.ucp_meanings.specs.Meanings.{geometric_means}
use Rattle.ucp_meanings.proofs.Scaled.{times_fits}
use Rattle.ucp_meanings.proofs.geometric_altitude_in_feet.Goals as goal

pub returns : goal.returns
unfolding geometric_means
returns c =
    let z = c.args.number in
    rw (to_z-of_z w16 z c.ranges.number, to_z-of_z w32 z (wider z c.ranges.number))
    (to_z-of_z w32 (z *ℤ pos 5) (times_fits z 5 c.ranges.number (omega arith)))
