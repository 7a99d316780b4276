-- `c_ucp_control::put` meets its contract: three octets are put, and two words. Assumes nothing.
use mathlib.Core.Path.{◌∙◌}
use native.Mathlib.Omega.{arith}
use lib.ListN.{set, length-set}
use lib.Seq.{sets}
use Rattle.field_words.proofs.Digits.{eight_from}
use Rattle.c_ucp_control.proofs.Held.{body_put}
use Rattle.c_ucp_control.proofs.put.Goals as goal

pub put_64-requires-2 : goal.put_64-requires-2
put_64-requires-2 c =
    let n = simp length-set at c.put_64.auto.output in
    omega (arith, n, c.requires.2)

pub shape_of-output : goal.shape_of-output
shape_of-output c =
    c.put_64-2.auto.output ∙ c.put_64.auto.output ∙ simp length-set

pub returns : goal.returns
returns c =
    let m = c.args.message.now in
    let output = c.args.output.now in
    let numbers = c.little_64.ensures ∙ eight_from m 8 (omega (arith, c.requires.0)) in
    let identity = c.little_64-2.ensures ∙ eight_from m 15 (omega (arith, c.requires.0)) in
    let first = c.put_64.ensures ∙ (λ i. sets (set (set (set output 0 45) 1 1) 2 c.state-state.result) 3 (numbers i)) in
    body_put m c.requires.0 (λ i. (c.shared_slice_known-1.given i).fits) output c.state-state.ensures c.requires.2
    (c.put_64-2.ensures ∙ (λ i. sets (first i) 10 (identity i)))
