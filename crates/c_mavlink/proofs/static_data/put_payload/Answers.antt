-- `c_mavlink::static_data::put_payload` meets its contract. Assumes nothing.
use mathlib.Core.Path.{◌∙◌}
use lib.ListN.{get_or, set}
use lib.Seq.{sets}
use Rattle.c_mavlink.proofs.Static.{payload_put}
use Rattle.c_mavlink.proofs.static_data.put_payload.Goals as goal

pub returns : goal.returns
returns c =
    let m = c.args.message.now in
    let first = c.put_64.ensures ∙ (λ i. sets c.args.output.now 6 (c.little_64.ensures i)) in
    let second = c.put_64-2.ensures ∙ (λ i. sets (first i) 14 (c.little_64-2.ensures i)) in
    let third = c.put_64-3.ensures ∙ (λ i. sets (second i) 17 (c.little_64-3.ensures i)) in
    payload_put m (λ i. (c.type_inv.message i).fits) c.requires.0 c.requires.1 c.args.output.now c.requires.2
    (λ i. set (third i) 9 (get_or m 19 0))
