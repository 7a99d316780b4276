-- `c_ucp_report::put_left` meets its contract, number by number. Assumes nothing.
use mathlib.Core.Path.{◌∙◌, ap}
use lib.Seq.{sets}
use Rattle.c_ucp_report.specs.Steps.{halves_of, wide24, four_of}
use Rattle.c_ucp_report.proofs.put_left.Goals as goal

pub returns : goal.returns
returns c =
    let left = c.left-left.ensures in
    let latitude = c.extended_24-latitude.ensures ∙ ap wide24 left.1 in
    let o = c.args.message.now in
    let first = c.put_halves.ensures ∙ (λ i. sets o 0 (halves_of (c.octet.ensures i))) in
    let second = c.put_32.ensures ∙ (λ i. sets (first i) 4 (four_of (left.0 i))) in
    c.put_32-2.ensures ∙ (λ i. sets (second i) 8 (four_of (latitude i)))
