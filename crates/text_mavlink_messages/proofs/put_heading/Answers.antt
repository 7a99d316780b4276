-- `text_mavlink_messages::put_heading` meets its contract: its template over its numbers is its fields. Assumes nothing.
use Rattle.text_fields.specs.Fields.{fields_shown}
use Rattle.text_fields.specs.Templates.{filled}
use Rattle.text_output.proofs.Clipped.{then}
use Rattle.text_mavlink_messages.proofs.put_heading.Goals as goal

pub returns : goal.returns
unfolding fields_shown filled
returns c = then c.put_word.ensures c.put_fields.ensures
