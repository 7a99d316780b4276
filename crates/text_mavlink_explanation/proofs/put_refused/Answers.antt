-- `text_mavlink_explanation::put_refused` meets its contract. Assumes nothing.
use Rattle.text_mavlink_explanation.specs.Explanation.{frame_line}
use Rattle.text_output.proofs.Clipped.{then}
use Rattle.text_mavlink_explanation.proofs.put_refused.Goals as goal

pub returns : goal.returns
unfolding frame_line
returns c = then (rw c.number.ensures at c.put_refusal.ensures) c.put_octet.ensures
