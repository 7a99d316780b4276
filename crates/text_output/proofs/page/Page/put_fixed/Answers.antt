-- `Page::put_fixed` meets its contract. Assumes nothing.
use mathlib.Core.Path.{◌≡◌}
use lib.IntN.{nat_abs}
use mir.Syntax.{w64}
use mir.ValLaws.{to_z-of_z}
use Rattle.text_output.specs.Text.{fixed_point}
use Rattle.text_output.proofs.Clipped.{then}
use Rattle.text_output.proofs.page.Page.put_fixed.Goals as goal

pub returns : goal.returns
unfolding fixed_point
returns c =
    let z = c.args.n in
    let f = c.ranges.n in
    let small : c.unsigned_abs-small.result ≡ nat_abs z = rw (to_z-of_z w64 z f) at c.unsigned_abs-small.ensures.value in
    then (rw (to_z-of_z w64 z f) at c.put_minus.ensures)
    (then (rw (small, c.whole_of-whole.ensures.0) at c.put_natural.ensures)
    (rw (small, c.whole_of-whole.ensures.0, c.places_of.ensures) at c.put_fraction.ensures))
