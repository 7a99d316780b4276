-- `text_refusals::put_refusal` meets its contract. Assumes nothing.
use Rattle.text_refusals.specs.Refusals.{refusal}
use Rattle.text_output.proofs.Clipped.{then}
use Rattle.text_refusals.proofs.put_refusal.Goals as goal

pub returns : goal.returns
unfolding refusal
returns c = then c.put_word.ensures (then c.put_natural.ensures c.put_reason.ensures)
