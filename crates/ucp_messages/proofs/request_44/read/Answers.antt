-- `request_44::read` meets its contract, test by test. Assumes nothing.
use Rattle.std.proofs.Common.{refl, arith}
use Rattle.std.specs.Prelude.{Ok, Err}
use Rattle.ucp_answers.proofs.Answers.{other, same, refused_11, refused_12, accepted}
use Rattle.ucp_messages.specs.Request44.{request_format}
use Rattle.ucp_messages.proofs.request_44.read.Goals as goal

pub returns-then-body-ne3 : goal.returns-then-body-ne3
returns-then-body-ne3 c = refused_11 request_format Err Ok _ c.if-body-ne3.true

pub returns-then-octet-ne2 : goal.returns-then-octet-ne2
returns-then-octet-ne2 c = refused_12 request_format Err Ok _ (omega arith) (other c.octet.ensures c.if-octet-ne2.true)

pub returns : goal.returns
returns c = accepted request_format Err Ok _ (omega arith) (same c.octet.ensures c.if-octet-ne2.false) c.fields.ensures refl
