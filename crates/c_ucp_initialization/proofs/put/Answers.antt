-- `c_ucp_initialization::put` meets its contract: the body's octets are put one behind the other. Assumes nothing.
use mathlib.Core.Path.{◌∙◌}
use Prim.Native.Nat.{◌+◌, ◌*◌}
use native.Mathlib.Omega.{arith}
use lib.ListN.{get_or, set, length-set}
use lib.Seq.{sets}
use Rattle.field_words.proofs.Digits.{eight_from}
use Rattle.c_ucp_initialization.proofs.Stored.{body_put}
use Rattle.c_ucp_initialization.proofs.put.Goals as goal

pub shape_of-output : goal.shape_of-output
shape_of-output c =
    simp length-set (c.put_64.auto.output ∙ c.put_first.auto.output)

pub returns : goal.returns
returns c =
    let m = c.args.message.now in
    let callsign = c.little_64.ensures ∙ eight_from m 9 (omega (arith, c.requires.0)) in
    let text = c.put_64.ensures ∙ (λ i. sets (c.put_first.ensures i) 8 (callsign i)) in
    body_put m c.requires.0 (λ i. (c.shared_slice_known-1.given i).fits) c.requires.1 c.args.output.now c.requires.2
    (λ i. set (set (set (text i) 16 (get_or m 17 0)) 17 (get_or m 18 0)) 18 (get_or m 19 0 * 32 + get_or m 20 0))
