-- `c_ucp_report::fill` meets its contract: the three parts behind zeros. Assumes nothing.
use mathlib.Core.Path.{◌∙◌}
use Rattle.c_ucp_report.specs.Steps.{right_stored, others_stored}
use Rattle.c_ucp_report.proofs.Bodies.{of_body}
use Rattle.c_ucp_report.proofs.fill.Goals as goal

pub returns : goal.returns
returns c =
    let body = c.args.body.now in
    let numbers = c.put_right.ensures ∙ (λ i. right_stored body (c.put_left.ensures i)) in
    c.put_others.ensures ∙ (λ i. others_stored body (numbers i)) ∙ of_body body c.requires
