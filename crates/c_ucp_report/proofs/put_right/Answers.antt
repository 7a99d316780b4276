-- `c_ucp_report::put_right` meets its contract, number by number. Assumes nothing.
use mathlib.Core.Path.{◌∙◌, ap}
use Prim.Native.Nat.{◌/◌, ◌%◌}
use native.Mathlib.Omega.{arith}
use lib.ListN.{set, length-set}
use lib.Seq.{sets}
use Rattle.c_ucp_report.specs.Steps.{halves_of, wide24, four_of}
use Rattle.c_lent.specs.Steps.{two_of}
use Rattle.c_ucp_report.proofs.put_right.Goals as goal

pub put_16-requires-2 : goal.put_16-requires-2
put_16-requires-2 c =
    let n = simp length-set at c.put_halves.auto.message in
    omega (arith, n, c.put_16.auto.message, c.put_32.auto.message, c.requires.1)

pub shape_of-message : goal.shape_of-message
shape_of-message c =
    c.put_16-2.auto.message ∙ c.put_halves.auto.message ∙ simp length-set (c.put_16.auto.message ∙ c.put_32.auto.message)

pub returns : goal.returns
returns c =
    let right = c.right-right.ensures in
    let longitude = c.extended_24-longitude.ensures ∙ ap wide24 right.0 in
    let o = c.args.message.now in
    let position = c.put_32.ensures ∙ (λ i. sets o 12 (four_of (longitude i))) in
    let altitude = c.put_16.ensures ∙ (λ i. sets (position i) 16 (two_of (right.2 i / 16))) in
    let integrity = c.put_halves.ensures ∙ (λ i. sets (set (altitude i) 18 (right.2 i % 16)) 19 (halves_of (right.3 i))) in
    c.put_16-2.ensures ∙ (λ i. sets (integrity i) 22 (two_of (right.4 i)))
