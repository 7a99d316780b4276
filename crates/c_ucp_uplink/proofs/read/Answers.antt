-- `read` meets its contract. The kind's ID goes in as a value. Assumes nothing.
use Rattle.std.proofs.Common.{ℕ, ap, ◌∙◌, rules}
use Rattle.c_lent.specs.Steps.{first_refusal}
use Rattle.c_lent.proofs.Answers.{past_first}
use Rattle.c_ucp_uplink.proofs.read.Goals as goal

pub fill-requires : goal.fill-requires
fill-requires c = ((past_first 7 436 _ (c.in_ok-first_refusal.ensures ∙ ap (λ (id : ℕ). first_refusal id 436 c.args.body.now) (search rules))).1, search rules)
