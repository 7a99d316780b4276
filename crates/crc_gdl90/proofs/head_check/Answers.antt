-- `crc_gdl90::head_check` meets its contract. Assumes nothing.
use mathlib.Core.Path.{◌≡◌, sym, ap, ap₂, ◌∙◌}
use mathlib.Core.List.{List}
use Prim.Native.Nat.{ℕ, ◌+◌, ◌*◌, ◌<◌}
use native.Mathlib.Omega.{arith}
use lib.ListN.{length, get_or}
use Rattle.crc_polynomial.specs.Polynomial.{bits_of_octets, divided}
use Rattle.crc_gdl90.proofs.Head.{take_none, take_one, take_two, one_octet, two_octets}
use Rattle.crc_gdl90.proofs.head_check.Goals as goal

pub returns-then-octets-eq0 : goal.returns-then-octets-eq0
unfolding bits_of_octets divided
returns-then-octets-eq0 c =
    let a = c.args in
    sym (ap (λ (xs : List ℕ). divided 0 (bits_of_octets xs)) (take_none a.octets a.body.now c.if-octets-eq0.true))

pub returns-then-octets-eq1 : goal.returns-then-octets-eq1
returns-then-octets-eq1 c =
    let a = c.args in
    let octet : get_or a.body.now 0 0 < 256 = omega (arith, c.wide.ensures) in
    c.wide.ensures.0
    ∙ sym (ap (λ (xs : List ℕ). divided 0 (bits_of_octets xs)) (take_one a.octets a.body.now c.if-octets-eq1.true (omega arith))
    ∙ one_octet (get_or a.body.now 0 0) octet)

pub returns : goal.returns
returns c =
    let a = c.args in
    let is-two : a.octets ≡ 2 = omega arith in
    let two : 1 < length a.body.now = omega arith in
    let first : get_or a.body.now 0 0 < 256 = omega (arith, c.wide-2.ensures) in
    let second : get_or a.body.now 1 0 < 256 = omega (arith, c.wide-3.ensures) in
    ap₂ (λ (x y : ℕ). x * 256 + y) c.wide-2.ensures.0 c.wide-3.ensures.0
    ∙ sym (ap (λ (xs : List ℕ). divided 0 (bits_of_octets xs)) (take_two a.octets a.body.now is-two two)
    ∙ two_octets (get_or a.body.now 0 0) (get_or a.body.now 1 0) first second)
