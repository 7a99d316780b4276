-- `c_mavlink::data_stream::write` meets its contract, by the frame writer's. Assumes nothing.
use Rattle.std.proofs.Common.{refl, sym, ◌∙◌, arith}
use lib.Seq.{take_all}
use Rattle.mavlink_frame.specs.Frame.{mavlink_kind}
use Rattle.mavlink_messages.specs.declared.Message.TheVariants.{DataStream}
use Rattle.mavlink_messages.proofs.Written.{written}
use Rattle.c_lent.specs.Structs.{held}
use Rattle.c_mavlink.specs.Structs.{header_struct, data_stream_struct}
use Rattle.c_mavlink.proofs.Structs.{data_stream_lies, payload_held}
use Rattle.c_mavlink.proofs.data_stream.write.Goals as goal

pub returns : goal.returns
unfolding mavlink_kind
returns c =
    let a = c.args in
    written {m = DataStream (held data_stream_struct a.message.now)} (held header_struct a.header.now) refl refl
    (sym (take_all 6 a.message.now (omega (arith, c.requires.0))) ∙ payload_held data_stream_lies a.message.now (λ i. (c.type_inv.message i).fits) c.requires.0)
    (rw c.sender-sender.ensures at c.write_six.ensures)
