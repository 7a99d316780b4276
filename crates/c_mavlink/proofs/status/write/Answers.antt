-- `c_mavlink::status::write` meets its contract, by the frame writer's. Assumes nothing.
use Rattle.std.proofs.Common.{refl, sym, ◌∙◌, arith}
use Rattle.c_mavlink.proofs.Parts.{part}
use Rattle.mavlink_frame.specs.Frame.{mavlink_kind}
use Rattle.mavlink_messages.specs.declared.Message.TheVariants.{Status}
use Rattle.mavlink_messages.proofs.Written.{written}
use Rattle.c_lent.specs.Structs.{held}
use Rattle.c_mavlink.specs.Structs.{header_struct, status_struct}
use Rattle.c_mavlink.proofs.Structs.{status_lies, payload_held}
use Rattle.c_mavlink.proofs.status.write.Goals as goal

pub returns : goal.returns
unfolding mavlink_kind
returns c =
    let a = c.args in
    written {m = Status (held status_struct a.message.now)} (held header_struct a.header.now) refl refl
    (sym (part 1 0 a.message.now (omega (arith, c.requires.0))) ∙ payload_held status_lies a.message.now (λ i. (c.type_inv.message i).fits) c.requires.0)
    (rw c.sender-sender.ensures at c.write_one.ensures)
