-- `text_ucp_messages::put_uplink` meets its contract. Assumes nothing.
use Rattle.text_ucp_messages.specs.Messages.{message_shown}
use Rattle.text_output.proofs.Clipped.{then}
use Rattle.text_ucp_messages.proofs.put_uplink.Goals as goal

pub returns : goal.returns
unfolding message_shown
returns c = then c.put_word.ensures (rw c.behind_id.ensures at c.put_printed.ensures)
