-- `report_10::read` meets its contract, test by test. Assumes nothing.
use Rattle.std.proofs.Common.{refl, arith}
use Rattle.std.specs.Prelude.{Ok, Err}
use Rattle.ucp_answers.proofs.Answers.{refused_11, accepted}
use Rattle.ucp_messages.specs.Report10.{report_format}
use Rattle.ucp_messages.proofs.report_10.read.Goals as goal

pub returns-then-body-ne28 : goal.returns-then-body-ne28
returns-then-body-ne28 c = refused_11 (report_format 10) Err Ok _ c.if-body-ne28.true

pub returns : goal.returns
returns c = accepted (report_format 10) Err Ok _ (omega arith) refl c.fields.ensures refl
