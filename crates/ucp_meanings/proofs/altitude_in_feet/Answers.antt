-- `ucp_meanings::altitude_in_feet` meets its contract. Assumes nothing.
use mathlib.Core.Path.{ap}
use native.Mathlib.Omega.{arith}
use borrow.Author.Tests.{eq-eqb, ne_eqb}
use Prim.Native.Nat.{◌*◌}
use lib.IntN.{pos, ◌-ℤ◌}
use mir.Syntax.{w32}
use mir.ValLaws.{to_z_pos, to_z-of_z}
use Rattle.ucp_meanings.specs.Meanings.{value, altitude_means}
use Rattle.ucp_meanings.proofs.Scaled.{less_fits}
use Rattle.ucp_meanings.proofs.altitude_in_feet.Goals as goal

pub returns-then-number-eq4095 : goal.returns-then-number-eq4095
unfolding altitude_means
returns-then-number-eq4095 c = rw (eq-eqb c.args.number 4095 c.if-number-eq4095.true)

pub returns : goal.returns
unfolding altitude_means
returns c =
    let n = c.args.number * 25 in
    rw (to_z_pos w32 n (omega arith), ne_eqb c.args.number 4095 c.if-number-eq4095.false)
    (ap value (to_z-of_z w32 (pos n -ℤ pos 1000) (less_fits n (omega arith))))
