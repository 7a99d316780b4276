-- `text_mavlink_explanation::put_closing` meets its contract. Assumes nothing.
use Rattle.text_mavlink_explanation.specs.Explanation.{frames_line}
use Rattle.text_mavlink_explanation.proofs.Longest.{closing_most, whole}
use Rattle.text_output.proofs.Clipped.{then}
use Rattle.text_mavlink_explanation.proofs.put_closing.Goals as goal

pub returns : goal.returns
unfolding frames_line
returns c =
    whole
    (rw (c.clear.ensures.0, c.clear.ensures.1)
    at (then c.put_word.ensures (then c.put_natural.ensures (then c.put_word-2.ensures (then c.put_natural-2.ensures c.put_octet.ensures)))))
    (closing_most c.args.frames c.args.bytes)
