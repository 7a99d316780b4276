-- `heartbeat_0::read` meets its contract, test by test. Assumes nothing.
use Rattle.std.proofs.Common.{refl, arith}
use Rattle.std.specs.Prelude.{Ok, Err}
use Rattle.ucp_answers.proofs.Answers.{refused_11, accepted}
use Rattle.ucp_messages.specs.Heartbeat0.{heartbeat_format}
use Rattle.ucp_messages.proofs.heartbeat_0.read.Goals as goal

pub returns-then-body-ne7 : goal.returns-then-body-ne7
returns-then-body-ne7 c = refused_11 heartbeat_format Err Ok _ c.if-body-ne7.true

pub returns : goal.returns
returns c = accepted heartbeat_format Err Ok _ (omega arith) refl c.fields.ensures refl
