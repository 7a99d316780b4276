-- `text_fields::put_reading` meets its contract: a number, and its unit behind it. Assumes nothing.
use native.Mathlib.Omega.{arith}
use mir.Syntax.{w64}
use mir.ValLaws.{to_z-of_z}
use Rattle.text_output.proofs.Clipped.{then}
use Rattle.text_fields.proofs.put_reading.Goals as goal

pub returns-in-Some : goal.returns-in-Some
returns-in-Some c =
    let z = c.in-Some.n in
    rw c.in-Some.is (then (rw (to_z-of_z w64 z (record { sfits = omega arith })) at c.put_fixed.ensures) c.put_unit.ensures)
