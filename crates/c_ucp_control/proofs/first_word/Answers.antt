-- `c_ucp_control::first_word` meets its contract: the state is the body's octet at 2, and the others are the struct's. Assumes
-- nothing.
use mathlib.Core.Path.{sym, ap, ◌∙◌}
use mathlib.Core.List.{List}
use Prim.Native.Nat.{ℕ}
use lib.ListN.{take, drop}
use Rattle.c_ucp_control.proofs.Held.{body_found}
use Rattle.c_ucp_control.proofs.first_word.Goals as goal

pub returns : goal.returns
returns c =
    c.word_of.ensures
    ∙ sym (ap (λ (b : List ℕ). take 8 (drop 2 b)) (body_found c.args.message.now c.requires.0 (λ i. (c.shared_slice_known-1.given i).fits) c.state-state.ensures))
