-- `ostrogosz_ucp_send_geometric_altitude` meets its contract: its two halves make up a send. Assumes nothing.
use Rattle.std.proofs.Common.{arith, rules}
use Rattle.output_writing.proofs.Numbers.{as_numbers}
use Rattle.ucp_messages.specs.GeometricAltitude11.{geometric_format}
use Rattle.c_lent.specs.Structs.{held}
use Rattle.c_lent.proofs.Sends.{struct_sends}
use Rattle.c_ucp_geometric_altitude.specs.Struct.{geometric_struct}
use Rattle.c_ucp_geometric_altitude.proofs.Stored.{body_length}
use Rattle.c_ucp_geometric_altitude.proofs.ostrogosz_ucp_send_geometric_altitude.Goals as goal

pub returns : goal.returns
returns c =
    let a = c.args in
    let m = held geometric_struct a.message.now in
    as_numbers c.from.ensures (struct_sends geometric_format m a.buffer.now _ 5 _ (search rules) (omega (arith, body_length m)) (omega (arith, body_length m))
    c.write-written.ensures c.frame_if_written.ensures)
