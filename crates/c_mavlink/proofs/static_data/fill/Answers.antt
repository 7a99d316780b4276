-- `c_mavlink::static_data::fill` meets its contract. Assumes nothing.
use mathlib.Core.Path.{sym, ap, ◌∙◌}
use Prim.Native.Nat.{ℕ}
use native.Mathlib.Omega.{arith}
use lib.ListN.{drop, set}
use lib.Seq.{get_or-take, get_or-drop}
use Rattle.mavlink_frame.specs.Reader.{payload_at}
use Rattle.c_mavlink.proofs.Parts.{part_octets, payload_length}
use Rattle.c_mavlink.proofs.Static.{static_stored}
use Rattle.c_mavlink.proofs.static_data.fill.Goals as goal

pub returns : goal.returns
returns c =
    let input = c.args.input.now in
    let integrity = sym (get_or-drop 6 input 3 0) ∙ sym (get_or-take 19 (drop 6 input) 3 0 (omega arith)) in
    ap (λ (n : ℕ). set (set c.copy.new.output 3 0) 19 n) integrity
    ∙ static_stored (payload_at 19 input) (part_octets 19 6 input (omega (arith, c.requires)) (λ i. (c.type_inv.input i).fits)) (payload_length 19 input c.requires)
    c.copy.ensures
