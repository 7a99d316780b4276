-- `read` meets its contract, test by test. Assumes nothing.
use Rattle.std.proofs.Common.{refl, rules, arith, eq-eqb, ne_eqb}
use Rattle.ucp_messages.specs.Request44.{request_format}
use Rattle.c_lent.proofs.Answers.{first-refused, past_first, refused_12, read}
use Rattle.c_ucp_request.specs.Struct.{request_struct}
use Rattle.c_ucp_request.proofs.read.Goals as goal

pub returns-in_err-first_refusal : goal.returns-in_err-first_refusal
returns-in_err-first_refusal c = let r = first-refused request_format request_struct c.args.body.now c.args.message.now c.in_err-first_refusal.field-0.0 c.in_err-first_refusal.ensures in search rules

pub bounds-body-1 : goal.bounds-body-1
bounds-body-1 c = omega (arith, (past_first 44 3 _ c.in_ok-first_refusal.ensures).1)

pub returns-then-body-ne2 : goal.returns-then-body-ne2
returns-then-body-ne2 c =
    let p = past_first 44 3 _ c.in_ok-first_refusal.ensures in
    refused_12 request_format request_struct _ _ p.0 p.1 (ne_eqb _ _ c.if-body-ne2.true)

pub fill-requires : goal.fill-requires
fill-requires c = (past_first 44 3 _ c.in_ok-first_refusal.ensures).1

pub returns : goal.returns
returns c =
    let p = past_first 44 3 _ c.in_ok-first_refusal.ensures in
    read request_format request_struct _ _ p.0 p.1 (eq-eqb _ _ c.if-body-ne2.false) refl c.fill.ensures
