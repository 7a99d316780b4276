-- `ostrogosz_ucp_send_initialization` meets its contract: its two halves make up a send. Assumes nothing.
use Rattle.std.proofs.Common.{arith, rules}
use Rattle.ucp_messages.specs.Initialization117.{initialization_format}
use Rattle.output_writing.proofs.Numbers.{as_numbers}
use Rattle.c_lent.specs.Structs.{held}
use Rattle.c_lent.proofs.Sends.{struct_sends}
use Rattle.c_ucp_initialization.specs.Struct.{initialization_struct}
use Rattle.c_ucp_initialization.proofs.Stored.{body_length}
use Rattle.c_ucp_initialization.proofs.ostrogosz_ucp_send_initialization.Goals as goal

pub returns : goal.returns
returns c =
    let a = c.args in
    let m = held initialization_struct a.message.now in
    as_numbers c.from.ensures (struct_sends initialization_format m a.buffer.now _ 19 _ (search rules) (omega (arith, body_length m)) (omega (arith, body_length m))
    c.write_body-written.ensures c.frame_if_written.ensures)
