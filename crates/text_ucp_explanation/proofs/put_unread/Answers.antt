-- `text_ucp_explanation::put_unread` meets its contract. Assumes nothing.
use Rattle.text_ucp_explanation.specs.Explanation.{read_line}
use Rattle.text_output.proofs.Clipped.{then}
use Rattle.text_ucp_explanation.proofs.put_unread.Goals as goal

pub returns : goal.returns
unfolding read_line
returns c =
    rw (← c.number.ensures)
    (then c.put_refusal.ensures (then c.put_word.ensures (then c.put_natural.ensures (then c.put_printed.ensures c.put_octet.ensures))))
