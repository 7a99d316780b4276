-- `c_ucp_geometric_altitude::write` meets its contract, by its two ways. Assumes nothing.
use native.Mathlib.Omega.{arith}
use Rattle.ucp_messages.specs.GeometricAltitude11.{geometric_format}
use Rattle.c_lent.proofs.Writers.{no_room, written}
use Rattle.c_lent.specs.Structs.{held}
use Rattle.c_ucp_geometric_altitude.specs.Struct.{geometric_struct}
use Rattle.c_ucp_geometric_altitude.proofs.Stored.{body_length, always_fits}
use Rattle.c_ucp_geometric_altitude.proofs.write.Goals as goal

pub returns-then-output-lt5 : goal.returns-then-output-lt5
returns-then-output-lt5 c =
    let a = c.args in
    no_room geometric_format (held geometric_struct a.message.now) a.output.now (always_fits (held geometric_struct a.message.now)) (omega (arith, body_length (held geometric_struct a.message.now)))

pub returns : goal.returns
returns c =
    let a = c.args in
    written geometric_format (held geometric_struct a.message.now) a.output.now (always_fits (held geometric_struct a.message.now)) (body_length (held geometric_struct a.message.now)) (omega arith) c.put.ensures
