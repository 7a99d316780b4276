-- `ucp_receiver::closing::copy` meets its contract. Assumes nothing.
use Rattle.std.proofs.Common.{◌≡◌, ℕ, ◌≤◌, List, [], ◌++◌, length, get_or, take, drop, set, refl, ap, ◌∙◌, arith, length-set, append-nil, drop_of_length-le, take_all}
use Rattle.ucp_receiver.proofs.closing.Copied.{copied_more}
use Rattle.ucp_receiver.proofs.closing.copy.Goals as goal

pub loop-i-preserved : goal.loop-i-preserved
loop-i-preserved c =
    let a = c.args in
    let l = c.loop-i in (
      simp length-set l.invariant.0,
      ap (λ (xs : List ℕ). set xs l.i (get_or a.octets.now l.i 0)) l.invariant.1
          ∙ copied_more a.output.now a.octets.now l.i (omega (arith, c.requires)) (omega arith),
    )

pub returns : goal.returns
returns c =
    let a = c.args in
    let l = c.loop-i in
    let all : length a.octets.now ≤ l.i = omega arith in
    let none : drop l.i a.output.now ≡ [] = drop_of_length-le a.output.now (omega (arith, c.requires, all)) in
    l.invariant.1 ∙ ap (λ (rest : List ℕ). take l.i a.octets.now ++ rest) none ∙ append-nil (take l.i a.octets.now) ∙ take_all l.i a.octets.now all
