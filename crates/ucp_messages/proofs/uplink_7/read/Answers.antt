-- `uplink_7::read` meets its contract, by its one test. Assumes nothing.
use Rattle.std.proofs.Common.{refl, eq-eqb, ne_eqb, arith, ◌≡◌, length}
use Rattle.std.specs.Prelude.{Err}
use Rattle.ucp_answers.proofs.Readers.{wrong_length, right}
use Rattle.ucp_messages.proofs.uplink_7.read.Goals as goal

pub returns-then-body-ne436 : goal.returns-then-body-ne436
returns-then-body-ne436 c = wrong_length Err _ _ _ (ne_eqb _ _ c.if-body-ne436.true)

pub returns : goal.returns
returns c =
    let exact : length c.args.body.now ≡ 436 = omega arith in
    right Err (eq-eqb _ _ exact) refl refl refl
