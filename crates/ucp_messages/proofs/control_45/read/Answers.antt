-- `control_45::read` meets its contract, test by test. Assumes nothing.
use Rattle.std.proofs.Common.{sym, ◌∙◌, arith}
use Rattle.std.specs.Prelude.{Ok, Err}
use Rattle.ucp_answers.proofs.Answers.{other, same, refused_11, refused_12, refused_13, accepted}
use Rattle.ucp_messages.specs.Control45.{control_format}
use Rattle.ucp_messages.proofs.control_45.read.Goals as goal

pub returns-then-body-ne18 : goal.returns-then-body-ne18
returns-then-body-ne18 c = refused_11 control_format Err Ok _ c.if-body-ne18.true

pub returns-then-octet-ne1 : goal.returns-then-octet-ne1
returns-then-octet-ne1 c = refused_12 control_format Err Ok _ (omega arith) (other c.octet.ensures c.if-octet-ne1.true)

pub returns-then-not-in_range : goal.returns-then-not-in_range
returns-then-not-in_range c =
    refused_13 control_format Err Ok _ (omega arith)
    (same c.octet.ensures c.if-octet-ne1.false)
    c.fields-fields.ensures (sym c.in_range.ensures ∙ c.if-not-in_range.true)

pub returns : goal.returns
returns c =
    accepted control_format Err Ok _ (omega arith)
    (same c.octet.ensures c.if-octet-ne1.false)
    c.fields-fields.ensures (sym c.in_range.ensures ∙ c.if-not-in_range.false)
