-- `text_mavlink_explanation::put_frame` meets its contract. Assumes nothing.
use Rattle.text_mavlink_explanation.specs.Explanation.{frame_line}
use Rattle.text_output.proofs.Clipped.{then}
use Rattle.text_mavlink_explanation.proofs.put_frame.Goals as goal

pub returns : goal.returns
unfolding frame_line
returns c = then c.put_word.ensures (then c.put_natural.ensures (then c.put_message.ensures c.put_octet.ensures))
