-- `text_fields::readings::altitude` meets its contract. Assumes nothing.
use mathlib.Core.Path.{ap}
use Prim.Native.Nat.{◌*◌}
use native.Mathlib.Omega.{arith}
use lib.IntN.{pos, ◌-ℤ◌}
use mir.Syntax.{w64}
use mir.ValLaws.{to_z_pos, to_z-of_z}
use borrow.Author.Tests.{eq-eqb, ne_eqb}
use Rattle.ucp_meanings.specs.Meanings.{altitude_means}
use Rattle.std.specs.Prelude.{Some}
use Rattle.text_fields.proofs.Marks.{less_fits}
use Rattle.text_fields.proofs.readings.altitude.Goals as goal

pub returns-then-n-eq4095 : goal.returns-then-n-eq4095
unfolding altitude_means
returns-then-n-eq4095 c = rw (eq-eqb c.args.n 4095 c.if-n-eq4095.true)

pub overflow_sub-result : goal.overflow_sub-result
overflow_sub-result c =
    let n = c.args.n * 25 in
    rw (to_z_pos w64 n (omega arith)) (less_fits n (omega arith))

pub returns : goal.returns
unfolding altitude_means
returns c =
    let n = c.args.n * 25 in
    rw (to_z_pos w64 n (omega arith), ne_eqb c.args.n 4095 c.if-n-eq4095.false)
    (ap Some (to_z-of_z w64 (pos n -ℤ pos 1000) (less_fits n (omega arith))))
