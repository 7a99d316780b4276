-- `report_10::write` meets its contract, by its two ways. Assumes nothing.
use mathlib.Core.Bool.{not}
use mathlib.Core.Path.{ap}
use Rattle.ucp_answers.proofs.Writers.{fitting, refused_13, body_put}
use Rattle.field_format.specs.Format.{body_of, fits}
use Rattle.field_format.proofs.Formats.{fitting as bounds}
use Rattle.ucp_messages.specs.Report10.{report_format}
use Rattle.ucp_messages.proofs.Formats.{report_right}
use Rattle.ucp_messages.proofs.report_10.write.Goals as goal

pub returns-then-not-fits : goal.returns-then-not-fits
unfolding fits
returns-then-not-fits c = refused_13 c.fits.ensures (body_of (report_format c.args.id) c.args.report) c.args.output.now (ap not c.if-not-fits.true)

pub octets-body-requires : goal.octets-body-requires
unfolding fits
octets-body-requires c = bounds (report_format c.args.id) (report_right c.args.id) c.args.report (fitting c.fits.ensures (ap not c.if-not-fits.false))

pub returns : goal.returns
unfolding fits
returns c = body_put c.fits.ensures
    (ap not c.if-not-fits.false) c.octets-body.ensures
    c.put.ensures
