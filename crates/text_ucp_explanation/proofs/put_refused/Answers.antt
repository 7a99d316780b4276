-- `text_ucp_explanation::put_refused` meets its contract. Assumes nothing.
use Rattle.text_output.proofs.Clipped.{then}
use Rattle.text_ucp_explanation.proofs.put_refused.Goals as goal

pub returns : goal.returns
returns c = rw (← c.number.ensures) (then c.put_refusal.ensures c.put_octet.ensures)
