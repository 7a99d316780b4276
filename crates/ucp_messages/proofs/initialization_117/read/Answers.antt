-- `initialization_117::read` meets its contract, test by test. Assumes nothing.
use Rattle.std.proofs.Common.{sym, ◌∙◌, arith}
use Rattle.std.specs.Prelude.{Ok, Err}
use Rattle.ucp_answers.proofs.Answers.{other, same, refused_11, refused_12, refused_13, accepted}
use Rattle.ucp_messages.specs.Initialization117.{initialization_format}
use Rattle.ucp_messages.proofs.initialization_117.read.Goals as goal

pub returns-then-body-ne19 : goal.returns-then-body-ne19
returns-then-body-ne19 c = refused_11 initialization_format Err Ok _ c.if-body-ne19.true

pub returns-then-octet-ne65 : goal.returns-then-octet-ne65
returns-then-octet-ne65 c =
    refused_12 initialization_format Err Ok _ (omega arith) (rw (other c.octet.ensures c.if-octet-ne65.true))

pub returns-then-octet-ne1 : goal.returns-then-octet-ne1
returns-then-octet-ne1 c =
    refused_12 initialization_format Err Ok _ (omega arith)
    (rw (same c.octet.ensures c.if-octet-ne65.false) (other c.octet-2.ensures c.if-octet-ne1.true))

pub returns-then-not-in_range : goal.returns-then-not-in_range
returns-then-not-in_range c =
    refused_13 initialization_format Err Ok _ (omega arith)
    (rw (same c.octet.ensures c.if-octet-ne65.false) (same c.octet-2.ensures c.if-octet-ne1.false))
    c.fields-fields.ensures (sym c.in_range.ensures ∙ c.if-not-in_range.true)

pub returns : goal.returns
returns c =
    accepted initialization_format Err Ok _ (omega arith)
    (rw (same c.octet.ensures c.if-octet-ne65.false) (same c.octet-2.ensures c.if-octet-ne1.false))
    c.fields-fields.ensures (sym c.in_range.ensures ∙ c.if-not-in_range.false)
