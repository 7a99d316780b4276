-- `Page::put_printed` meets its contract. Assumes nothing.
use native.Mathlib.Omega.{arith}
use mathlib.Core.Path.{◌∙◌}
use Rattle.text_output.proofs.Clipped.{none_put, clips_long, then}
use Rattle.text_output.proofs.Printed.{next_printed, all_printed}
use Rattle.text_output.proofs.page.Page.put_printed.Goals as goal

pub loop-octet-init : goal.loop-octet-init
loop-octet-init c =
    let p = c.put_nothing.ensures in
    (omega (arith, p.ends), clips_long p ∙ p.room, λ end last q. q)

pub loop-octet-preserved : goal.loop-octet-preserved
loop-octet-preserved c =
    let l = c.loop-octet in
    let p = c.put_printed_octet.ensures in
    (omega (arith, p.ends), clips_long p ∙ l.invariant.1, next_printed c.args.printing c.args.octets.now l.octet-index c.loop-octet-test.true l.invariant.2 p)

pub returns : goal.returns
returns c =
    let l = c.loop-octet in
    then c.put_nothing.ensures
    (all_printed c.args.printing c.args.octets.now l.octet-index c.loop-octet-test.false l.invariant.2 (none_put _ _ l.invariant.1 l.invariant.0))
