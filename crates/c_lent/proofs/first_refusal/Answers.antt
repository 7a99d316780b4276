-- `c_lent::first_refusal` meets its contract, test by test. Assumes nothing.
use native.Mathlib.Omega.{arith}
use Rattle.c_lent.proofs.Answers.{first-10, first-10-too, first-11, first-0}
use Rattle.c_lent.proofs.first_refusal.Goals as goal

pub returns-then-n-eq0 : goal.returns-then-n-eq0
returns-then-n-eq0 c = first-10 _ _ _ c.if-n-eq0.true

pub returns-then-body-id : goal.returns-then-body-id
returns-then-body-id c = first-10-too _ _ _ c.if-n-eq0.false c.if-body-id.true

pub returns-then-n-size : goal.returns-then-n-size
returns-then-n-size c = first-11 _ _ _ c.if-n-eq0.false (omega arith) c.if-n-size.true

pub returns : goal.returns
returns c = first-0 _ _ _ c.if-n-eq0.false (omega arith) (omega arith)
