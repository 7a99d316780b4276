-- `c_mavlink::data_stream::read` meets its contract: every payload is in range, and the struct then holds it. Assumes nothing.
use Rattle.std.proofs.Common.{◌≡◌, rules, refl, sym, ◌∙◌, append-nil}
use Rattle.mavlink_frame.specs.Frame.{kind, mavlink_kind}
use Rattle.mavlink_frame.specs.Reader.{payload_at}
use Rattle.mavlink_messages.specs.declared.Message.TheVariants.{DataStream}
use Rattle.mavlink_messages.specs.DataStream66.{data_stream_format}
use Rattle.c_mavlink.specs.Steps.{Taken}
use Rattle.c_mavlink.proofs.Structs.{data_stream_lies, taken_stored}
use Rattle.c_mavlink.proofs.Readers.{read}
use Rattle.c_mavlink.proofs.data_stream.read.Goals as goal

pub returns : goal.returns
unfolding mavlink_kind
returns c =
    let s = c.args.input.now in
    let t : Taken (kind 66 6 148) s = c.in_ok-tested.ensures in
    let octets : c.unwrap.result ≡ payload_at 6 s = search rules in
    read _ _ (kind 66 6 148) data_stream_format DataStream (λ h used p. refl) s t refl c.put_sender.ensures
    (octets ∙ sym (append-nil (payload_at 6 s)) ∙ taken_stored data_stream_lies s c.type_inv.input t.room)
