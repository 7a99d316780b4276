-- `geometric_altitude_11::read` meets its contract, test by test. Assumes nothing.
use Rattle.std.proofs.Common.{refl, arith}
use Rattle.std.specs.Prelude.{Ok, Err}
use Rattle.ucp_answers.proofs.Answers.{refused_11, accepted}
use Rattle.ucp_messages.specs.GeometricAltitude11.{geometric_format}
use Rattle.ucp_messages.proofs.geometric_altitude_11.read.Goals as goal

pub returns-then-body-ne5 : goal.returns-then-body-ne5
returns-then-body-ne5 c = refused_11 geometric_format Err Ok _ c.if-body-ne5.true

pub returns : goal.returns
returns c = accepted geometric_format Err Ok _ (omega arith) refl c.fields.ensures refl
