-- `field_texts::is_spaced` meets its contract: it asks of each octet what the rule does. Assumes nothing.
use Rattle.field_texts.proofs.Ends.{spaced_next, spaced_end}
use Rattle.field_texts.proofs.is_spaced.Goals as goal

pub loop-octet-preserved : goal.loop-octet-preserved
loop-octet-preserved c =
    let l = c.loop-octet in
    spaced_next c.args.text.now l.octet-index l.spaced c.loop-octet-test.true c.is_spaced_octet-spaced.ensures l.invariant

pub returns : goal.returns
returns c =
    let l = c.loop-octet in
    spaced_end c.args.text.now l.octet-index l.spaced c.loop-octet-test.false l.invariant
