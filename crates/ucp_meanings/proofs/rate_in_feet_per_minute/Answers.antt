-- `ucp_meanings::rate_in_feet_per_minute` meets its contract. Assumes nothing.
use mathlib.Core.Path.{ap}
use native.Mathlib.Omega.{arith}
use lib.IntN.{pos, ◌*ℤ◌}
use mir.Syntax.{w16, w32}
use mir.ValLaws.{to_z-of_z}
use Rattle.field_signed.proofs.Negative.{wider}
use Rattle.ucp_meanings.specs.Meanings.{value, rate_means}
use Rattle.ucp_meanings.proofs.Scaled.{times_fits, no_rate, some_rate}
use Rattle.ucp_meanings.proofs.rate_in_feet_per_minute.Goals as goal

pub returns-then-number-eqminus2048 : goal.returns-then-number-eqminus2048
unfolding rate_means
returns-then-number-eqminus2048 c = rw (no_rate c.args.number c.ranges.number c.if-number-eqminus2048.true)

pub returns : goal.returns
unfolding rate_means
returns c =
    let z = c.args.number in
    let f = c.ranges.number in
    rw (to_z-of_z w16 z f, to_z-of_z w32 z (wider z f), some_rate z f c.if-number-eqminus2048.false)
    (ap value (to_z-of_z w32 (z *ℤ pos 64) (times_fits z 64 f (omega arith))))
