-- `text_mavlink_messages::put_message` meets its contract, kind by kind. Assumes nothing.
use Rattle.text_mavlink_messages.specs.Messages.{mavlink_shown}
use Rattle.text_output.proofs.Clipped.{then}
use Rattle.text_mavlink_messages.proofs.put_message.Goals as goal

pub returns-in-DataStream : goal.returns-in-DataStream
unfolding mavlink_shown
returns-in-DataStream c = rw c.in-DataStream.is (then c.put_heading.ensures c.put_data_stream.ensures)

pub returns-in-Static : goal.returns-in-Static
unfolding mavlink_shown
returns-in-Static c = rw c.in-Static.is (then c.put_heading-in-Static.ensures c.put_static.ensures)

pub returns-in-Dynamic : goal.returns-in-Dynamic
unfolding mavlink_shown
returns-in-Dynamic c = rw c.in-Dynamic.is (then c.put_heading-in-Dynamic.ensures c.put_dynamic.ensures)

pub returns-in-Status : goal.returns-in-Status
unfolding mavlink_shown
returns-in-Status c = rw c.in-Status.is (then c.put_heading-in-Status.ensures c.put_status.ensures)

pub returns-in-Traffic : goal.returns-in-Traffic
unfolding mavlink_shown
returns-in-Traffic c = rw c.in-Traffic.is (then c.put_heading-in-Traffic.ensures c.put_traffic.ensures)
