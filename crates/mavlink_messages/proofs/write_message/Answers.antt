-- `mavlink_messages::write_message` meets its contract, by its ways. Assumes nothing.
use mathlib.Core.Path.{sym, ◌∙◌}
use Rattle.mavlink_frame.specs.Frame.{mavlink_kind}
use Rattle.mavlink_messages.proofs.Written.{written, address_fits}
use Rattle.mavlink_messages.proofs.write_message.Goals as goal

pub octets-payload-requires-in-Static : goal.octets-payload-requires-in-Static
octets-payload-requires-in-Static c =
    address_fits c.in-Static.is (sym c.in_range.ensures ∙ c.if-not-in_range.false)

pub returns-in-DataStream : goal.returns-in-DataStream
unfolding mavlink_kind
returns-in-DataStream c =
    written c.args.header c.in-DataStream.is (sym c.in_range.ensures ∙ c.if-not-in_range.false) c.octets-payload.ensures
    c.write_kind.ensures

pub returns-in-Static : goal.returns-in-Static
unfolding mavlink_kind
returns-in-Static c =
    written c.args.header c.in-Static.is (sym c.in_range.ensures ∙ c.if-not-in_range.false) c.octets-payload-in-Static.ensures
    c.write_kind-in-Static.ensures

pub returns-in-Dynamic : goal.returns-in-Dynamic
unfolding mavlink_kind
returns-in-Dynamic c =
    written c.args.header c.in-Dynamic.is (sym c.in_range.ensures ∙ c.if-not-in_range.false) c.octets-payload-in-Dynamic.ensures
    c.write_kind-in-Dynamic.ensures

pub returns-in-Status : goal.returns-in-Status
unfolding mavlink_kind
returns-in-Status c =
    written c.args.header c.in-Status.is (sym c.in_range.ensures ∙ c.if-not-in_range.false) c.octets-payload-in-Status.ensures
    c.write_kind-in-Status.ensures

pub returns-in-Traffic : goal.returns-in-Traffic
unfolding mavlink_kind
returns-in-Traffic c =
    written c.args.header c.in-Traffic.is (sym c.in_range.ensures ∙ c.if-not-in_range.false) c.octets-payload-in-Traffic.ensures
    c.write_kind-in-Traffic.ensures
