-- `c_ucp_heartbeat::write` meets its contract, by its two ways. Assumes nothing.
use native.Mathlib.Omega.{arith}
use Rattle.ucp_messages.specs.Heartbeat0.{heartbeat_format}
use Rattle.c_lent.proofs.Writers.{no_room, written}
use Rattle.c_lent.specs.Structs.{held}
use Rattle.c_ucp_heartbeat.specs.Struct.{heartbeat_struct}
use Rattle.c_ucp_heartbeat.proofs.Stored.{body_length, always_fits}
use Rattle.c_ucp_heartbeat.proofs.write.Goals as goal

pub returns-then-output-lt7 : goal.returns-then-output-lt7
returns-then-output-lt7 c =
    let a = c.args in
    no_room heartbeat_format (held heartbeat_struct a.message.now) a.output.now (always_fits (held heartbeat_struct a.message.now)) (omega (arith, body_length (held heartbeat_struct a.message.now)))

pub returns : goal.returns
returns c =
    let a = c.args in
    written heartbeat_format (held heartbeat_struct a.message.now) a.output.now (always_fits (held heartbeat_struct a.message.now)) (body_length (held heartbeat_struct a.message.now)) (omega arith) c.put.ensures
