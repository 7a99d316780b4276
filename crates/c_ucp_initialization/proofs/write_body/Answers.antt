-- `c_ucp_initialization::write_body` meets its contract, by its three ways. Assumes nothing.
use mathlib.Core.Path.{ap}
use mathlib.Core.Bool.{not}
use native.Mathlib.Omega.{arith}
use Rattle.ucp_messages.specs.Initialization117.{initialization_format}
use Rattle.c_lent.proofs.Writers.{fitting, not_fitting, no_field, no_room, written}
use Rattle.c_lent.specs.Structs.{held}
use Rattle.c_ucp_initialization.specs.Struct.{initialization_struct}
use Rattle.c_ucp_initialization.proofs.Stored.{body_length}
use borrow.Author.Rules.{rules}
use Rattle.c_ucp_initialization.proofs.write_body.Goals as goal

pub returns-then-not-fits : goal.returns-then-not-fits
returns-then-not-fits c =
    let a = c.args in
    no_field initialization_format (held initialization_struct a.message.now) a.output.now
    (not_fitting c.fits.ensures.0 (ap not c.if-not-fits.true))

pub returns-then-output-lt19 : goal.returns-then-output-lt19
returns-then-output-lt19 c =
    let a = c.args in
    no_room initialization_format (held initialization_struct a.message.now) a.output.now
    (fitting c.fits.ensures.0 (ap not c.if-not-fits.false))
    (omega (arith, body_length (held initialization_struct a.message.now)))

pub put-requires : goal.put-requires
put-requires c =
    (search rules, c.fits.ensures.1 c.if-not-fits.false, omega arith)

pub returns : goal.returns
returns c =
    let a = c.args in
    written initialization_format (held initialization_struct a.message.now) a.output.now
    (fitting c.fits.ensures.0 (ap not c.if-not-fits.false))
    (body_length (held initialization_struct a.message.now)) (omega arith) c.put.ensures
