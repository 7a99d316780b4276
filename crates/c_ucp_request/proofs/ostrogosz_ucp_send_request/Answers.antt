-- `ostrogosz_ucp_send_request` meets its contract: its two halves make up a send. Assumes nothing.
use Rattle.std.proofs.Common.{arith, rules}
use Rattle.output_writing.proofs.Numbers.{as_numbers}
use Rattle.ucp_messages.specs.Request44.{request_format}
use Rattle.c_lent.specs.Structs.{held}
use Rattle.c_lent.proofs.Sends.{struct_sends}
use Rattle.c_ucp_request.specs.Struct.{request_struct}
use Rattle.c_ucp_request.proofs.Stored.{body_length}
use Rattle.c_ucp_request.proofs.ostrogosz_ucp_send_request.Goals as goal

pub returns : goal.returns
returns c =
    let a = c.args in
    let m = held request_struct a.message.now in
    as_numbers c.from.ensures (struct_sends request_format m a.buffer.now _ 3 _ (search rules) (omega (arith, body_length m)) (omega (arith, body_length m))
    c.write-written.ensures c.frame_if_written.ensures)
