-- `read` meets its contract, test by test. Assumes nothing.
use Rattle.std.proofs.Common.{rules, arith, sym, ◌∙◌, eq-eqb, ne_eqb}
use Rattle.ucp_messages.specs.Control45.{control_format}
use Rattle.c_lent.proofs.Answers.{first-refused, past_first, refused_12, refused_13, read}
use Rattle.c_ucp_control.specs.Struct.{control_struct}
use Rattle.c_ucp_control.proofs.read.Goals as goal

pub returns-in_err-first_refusal : goal.returns-in_err-first_refusal
returns-in_err-first_refusal c = let r = first-refused control_format control_struct c.args.body.now c.args.message.now c.in_err-first_refusal.field-0.0 c.in_err-first_refusal.ensures in search rules

pub bounds-body-1 : goal.bounds-body-1
bounds-body-1 c = omega (arith, (past_first 45 18 _ c.in_ok-first_refusal.ensures).1)

pub returns-then-body-ne1 : goal.returns-then-body-ne1
returns-then-body-ne1 c =
    let p = past_first 45 18 _ c.in_ok-first_refusal.ensures in
    refused_12 control_format control_struct _ _ p.0 p.1 (ne_eqb _ _ c.if-body-ne1.true)

pub body_fits-requires : goal.body_fits-requires
body_fits-requires c = (past_first 45 18 _ c.in_ok-first_refusal.ensures).1

pub returns-then-not-body_fits : goal.returns-then-not-body_fits
returns-then-not-body_fits c =
    let p = past_first 45 18 _ c.in_ok-first_refusal.ensures in
    refused_13 control_format control_struct _ _ p.0 p.1 (eq-eqb _ _ c.if-body-ne1.false)
    (sym c.body_fits.ensures ∙ c.if-not-body_fits.true)

pub fill-requires : goal.fill-requires
fill-requires c = (past_first 45 18 _ c.in_ok-first_refusal.ensures).1

pub returns : goal.returns
returns c =
    let p = past_first 45 18 _ c.in_ok-first_refusal.ensures in
    read control_format control_struct _ _ p.0 p.1 (eq-eqb _ _ c.if-body-ne1.false)
    (sym c.body_fits.ensures ∙ c.if-not-body_fits.false) c.fill.ensures
