-- `text_mavlink_messages::put_data_stream` meets its contract: its template over its numbers is its fields. Assumes nothing.
use Rattle.text_fields.specs.Fields.{fields_shown}
use Rattle.text_fields.specs.Templates.{filled}
use Rattle.text_mavlink_messages.proofs.put_data_stream.Goals as goal

pub returns : goal.returns
unfolding fields_shown filled
returns c = c.put_fields.ensures
