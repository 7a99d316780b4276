-- `c_ucp_report::write_body` meets its contract, by its three ways. Assumes nothing.
use mathlib.Core.Bool.{not}
use mathlib.Core.Path.{◌∙◌, ap}
use native.Mathlib.Omega.{arith}
use Rattle.ucp_messages.specs.Report10.{report_format}
use Rattle.c_lent.proofs.Writers.{fitting, not_fitting, no_field, no_room, written}
use Rattle.c_lent.specs.Structs.{held}
use Rattle.c_ucp_report.specs.Struct.{report_struct}
use Rattle.c_ucp_report.proofs.Held.{body_length, same_fits}
use borrow.Author.Rules.{rules}
use Rattle.c_ucp_report.proofs.write_body.Goals as goal

pub returns-then-not-fits : goal.returns-then-not-fits
returns-then-not-fits c =
    let a = c.args in
    no_field (report_format a.id) (held report_struct a.message.now) a.output.now
    (not_fitting (c.fits.ensures.0 ∙ same_fits a.id _) (ap not c.if-not-fits.true))

pub returns-then-output-lt28 : goal.returns-then-output-lt28
returns-then-output-lt28 c =
    let a = c.args in
    no_room (report_format a.id) (held report_struct a.message.now) a.output.now
    (fitting (c.fits.ensures.0 ∙ same_fits a.id _) (ap not c.if-not-fits.false))
    (omega (arith, body_length a.id (held report_struct a.message.now)))

pub put-requires : goal.put-requires
put-requires c =
    (search rules, c.fits.ensures.1 c.if-not-fits.false, omega arith)

pub returns : goal.returns
returns c =
    let a = c.args in
    written (report_format a.id) (held report_struct a.message.now) a.output.now
    (fitting (c.fits.ensures.0 ∙ same_fits a.id _) (ap not c.if-not-fits.false))
    (body_length a.id (held report_struct a.message.now)) (omega arith) c.put.ensures
