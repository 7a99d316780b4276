-- `text_ucp_explanation::put_read` meets its contract. Assumes nothing.
use Rattle.text_ucp_explanation.specs.Explanation.{read_line}
use Rattle.text_output.proofs.Clipped.{then}
use Rattle.text_ucp_explanation.proofs.put_read.Goals as goal

pub returns : goal.returns
unfolding read_line
returns c = then c.put_word.ensures (then c.put_natural.ensures (then c.put_message.ensures c.put_octet.ensures))
