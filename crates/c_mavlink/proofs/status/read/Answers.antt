-- `c_mavlink::status::read` meets its contract: every payload is in range, and the struct then holds it. Assumes nothing.
use Rattle.std.proofs.Common.{refl, sym, ◌∙◌, append-nil}
use Rattle.mavlink_frame.specs.Frame.{kind, mavlink_kind}
use Rattle.mavlink_frame.specs.Reader.{payload_at}
use Rattle.mavlink_messages.specs.declared.Message.TheVariants.{Status}
use Rattle.mavlink_messages.specs.Status203.{status_format}
use Rattle.c_mavlink.specs.Steps.{Taken}
use Rattle.c_mavlink.proofs.Structs.{status_lies, taken_stored}
use Rattle.c_mavlink.proofs.Readers.{read}
use Rattle.c_mavlink.proofs.status.read.Goals as goal

pub returns : goal.returns
unfolding mavlink_kind
returns c =
    let s = c.args.input.now in
    let t : Taken (kind 203 1 85) s = c.in_ok-tested.ensures in
    read _ _ (kind 203 1 85) status_format Status (λ h used p. refl) s t refl c.put_sender.ensures
    (c.copy_from_slice.ensures.after ∙ sym (append-nil (payload_at 1 s)) ∙ taken_stored status_lies s c.type_inv.input t.room)
