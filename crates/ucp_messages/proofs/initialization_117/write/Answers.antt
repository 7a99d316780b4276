-- `initialization_117::write` meets its contract, by its two ways. Assumes nothing.
use mathlib.Core.Bool.{not}
use mathlib.Core.Path.{ap}
use Rattle.ucp_answers.proofs.Writers.{fitting, refused_13}
use Rattle.field_format.specs.Format.{body_of}
use Rattle.field_format.proofs.Formats.{fitting as bounds}
use Rattle.ucp_messages.specs.Initialization117.{initialization_format}
use Rattle.ucp_messages.proofs.Formats.{initialization_right}
use Rattle.ucp_messages.proofs.initialization_117.write.Goals as goal

pub returns-then-not-fits : goal.returns-then-not-fits
returns-then-not-fits c = refused_13 c.fits.ensures (body_of initialization_format c.args.initialization) c.args.output.now (ap not c.if-not-fits.true)

pub octets-body-requires : goal.octets-body-requires
octets-body-requires c = bounds initialization_format initialization_right c.args.initialization (fitting c.fits.ensures (ap not c.if-not-fits.false))
