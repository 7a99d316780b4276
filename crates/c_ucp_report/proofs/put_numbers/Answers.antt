-- `c_ucp_report::put_numbers` meets its contract: eight octets and then eight more. Assumes nothing.
use mathlib.Core.Path.{◌∙◌}
use lib.Seq.{sets}
use Rattle.c_ucp_report.proofs.put_numbers.Goals as goal

pub returns : goal.returns
returns c =
    let output = c.args.output.now in
    let first = c.put_64.ensures ∙ (λ i. sets output 0 (c.left_octets.ensures i)) in
    c.put_64-2.ensures ∙ (λ i. sets (first i) 8 (c.right_octets.ensures i))
