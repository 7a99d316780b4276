-- `c_ucp_control::fill` meets its contract: three words are put. Assumes nothing.
use mathlib.Core.Path.{◌∙◌}
use native.Mathlib.Omega.{arith}
use lib.ListN.{replicate}
use lib.Seq.{sets}
use Rattle.field_words.proofs.Digits.{eight_from}
use Rattle.c_ucp_control.proofs.Stored.{body_stored}
use Rattle.c_ucp_control.proofs.fill.Goals as goal

pub returns : goal.returns
returns c =
    let body = c.args.body.now in
    let numbers = c.little_64.ensures ∙ eight_from body 3 (omega (arith, c.requires)) in
    let identity = c.little_64-2.ensures ∙ eight_from body 10 (omega (arith, c.requires)) in
    let first = c.put_64.ensures ∙ (λ i. sets (replicate 24 0) 0 (c.flags.ensures i)) in
    let second = c.put_64-2.ensures ∙ (λ i. sets (first i) 8 (numbers i)) in
    c.put_64-3.ensures ∙ (λ i. sets (second i) 15 (identity i))
    ∙ body_stored body (λ i. (c.shared_slice_known-1.given i).fits) c.requires
