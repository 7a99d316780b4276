-- `text_fields::put_quoted` meets its contract. Assumes nothing.
use Rattle.text_output.proofs.Clipped.{then}
use Rattle.text_fields.specs.Fields.{shown}
use Rattle.text_fields.proofs.put_quoted.Goals as goal

pub returns : goal.returns
unfolding shown
returns c = then c.put_octet.ensures (then c.put_printed.ensures c.put_octet-2.ensures)
