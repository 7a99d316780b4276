-- `c_ucp_request::write` meets its contract, by its two ways. Assumes nothing.
use native.Mathlib.Omega.{arith}
use Rattle.ucp_messages.specs.Request44.{request_format}
use Rattle.c_lent.proofs.Writers.{no_room, written}
use Rattle.c_lent.specs.Structs.{held}
use Rattle.c_ucp_request.specs.Struct.{request_struct}
use Rattle.c_ucp_request.proofs.Stored.{body_length, always_fits}
use Rattle.c_ucp_request.proofs.write.Goals as goal

pub returns-then-output-lt3 : goal.returns-then-output-lt3
returns-then-output-lt3 c =
    let a = c.args in
    no_room request_format (held request_struct a.message.now) a.output.now (always_fits (held request_struct a.message.now)) (omega (arith, body_length (held request_struct a.message.now)))

pub returns : goal.returns
returns c =
    let a = c.args in
    written request_format (held request_struct a.message.now) a.output.now (always_fits (held request_struct a.message.now)) (body_length (held request_struct a.message.now)) (omega arith) c.put.ensures
