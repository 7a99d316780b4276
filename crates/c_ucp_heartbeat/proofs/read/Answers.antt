-- `read` meets its contract, test by test. Assumes nothing.
use Rattle.std.proofs.Common.{refl, rules}
use Rattle.ucp_messages.specs.Heartbeat0.{heartbeat_format}
use Rattle.c_lent.proofs.Answers.{first-refused, past_first, read}
use Rattle.c_ucp_heartbeat.specs.Struct.{heartbeat_struct}
use Rattle.c_ucp_heartbeat.proofs.read.Goals as goal

pub returns-in_err-first_refusal : goal.returns-in_err-first_refusal
returns-in_err-first_refusal c = let r = first-refused heartbeat_format heartbeat_struct c.args.body.now c.args.message.now c.in_err-first_refusal.field-0.0 c.in_err-first_refusal.ensures in search rules

pub fill-requires : goal.fill-requires
fill-requires c = (past_first 0 7 _ c.in_ok-first_refusal.ensures).1

pub returns : goal.returns
returns c =
    let p = past_first 0 7 _ c.in_ok-first_refusal.ensures in
    read heartbeat_format heartbeat_struct _ _ p.0 p.1 (refl) refl c.fill.ensures
