-- `c_ucp_control::bit` meets its contract. Assumes nothing.
use mathlib.Core.Path.{sym, ap, ◌∙◌}
use mathlib.Core.Bool.{Bool, not}
use Prim.Native.Nat.{◌*◌}
use native.Mathlib.Nat.{one-mul, zero-mul}
use native.Mathlib.Omega.{arith}
use borrow.Author.Tests.{eq-eqb, ne_eqb}
use Rattle.field_layout.specs.Layout.{bit_of}
use Rattle.c_ucp_control.proofs.bit.Goals as goal

pub returns-then-octet-eq0 : goal.returns-then-octet-eq0
returns-then-octet-eq0 c =
    let worth = c.args.worth in
    (sym (ap (λ (t : Bool). bit_of (not t) * worth) (eq-eqb _ _ c.if-octet-eq0.true) ∙ zero-mul worth), omega arith)

pub returns-else-octet-eq0 : goal.returns-else-octet-eq0
returns-else-octet-eq0 c =
    let worth = c.args.worth in
    (sym (ap (λ (t : Bool). bit_of (not t) * worth) (ne_eqb _ _ c.if-octet-eq0.false) ∙ one-mul worth), omega arith)
