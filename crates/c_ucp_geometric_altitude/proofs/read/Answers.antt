-- `read` meets its contract, test by test. Assumes nothing.
use Rattle.std.proofs.Common.{ℕ, refl, ap, ◌∙◌, rules}
use Rattle.c_lent.specs.Steps.{first_refusal}
use Rattle.ucp_messages.specs.GeometricAltitude11.{geometric_format}
use Rattle.c_lent.proofs.Answers.{first-refused, past_first, read}
use Rattle.c_ucp_geometric_altitude.specs.Struct.{geometric_struct}
use Rattle.c_ucp_geometric_altitude.proofs.read.Goals as goal

pub returns-in_err-first_refusal : goal.returns-in_err-first_refusal
returns-in_err-first_refusal c = let r = first-refused geometric_format geometric_struct c.args.body.now c.args.message.now c.in_err-first_refusal.field-0.0 (c.in_err-first_refusal.ensures ∙ ap (λ (id : ℕ). first_refusal id 5 c.args.body.now) (search rules)) in search rules

pub fill-requires : goal.fill-requires
fill-requires c = (past_first 11 5 _ (c.in_ok-first_refusal.ensures ∙ ap (λ (id : ℕ). first_refusal id 5 c.args.body.now) (search rules))).1

pub returns : goal.returns
returns c =
    let p = past_first 11 5 _ (c.in_ok-first_refusal.ensures ∙ ap (λ (id : ℕ). first_refusal id 5 c.args.body.now) (search rules)) in
    read geometric_format geometric_struct _ _ p.0 p.1 (refl) refl c.fill.ensures
