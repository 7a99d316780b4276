-- `crc_gdl90::frame_check` meets its contract. Assumes nothing.
use mathlib.Core.Path.{refl, sym, ap, ◌∙◌}
use Prim.Native.Nat.{ℕ, ◌+◌}
use lib.ListN.{drop}
use Rattle.crc_polynomial.specs.Polynomial.{bits_of_octets, divided}
use Rattle.crc_gdl90.specs.Check.{frame_check}
use Rattle.crc_gdl90.proofs.Step.{octet_first, none_left}
use Rattle.crc_gdl90.proofs.frame_check.Goals as goal

pub loop-octet-init : goal.loop-octet-init
unfolding frame_check
loop-octet-init c = refl

pub loop-octet-preserved : goal.loop-octet-preserved
loop-octet-preserved c =
    let l = c.loop-octet in
    let body = c.args.body.now in
    ap (λ (r : ℕ). divided r (bits_of_octets (drop (l.octet-index + 1) body))) c.next_check-check.ensures.0
    ∙ sym (octet_first l.check body l.octet-index c.loop-octet-test.true)
    ∙ l.invariant

pub returns : goal.returns
returns c =
    let l = c.loop-octet in
    sym (none_left l.check _ l.octet-index c.loop-octet-test.false) ∙ l.invariant
