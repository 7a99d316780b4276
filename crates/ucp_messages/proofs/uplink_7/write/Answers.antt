-- `uplink_7::write` meets its contract, by its three answers. Assumes nothing.
use mathlib.Core.Path.{◌≡◌, refl, ◌∙◌}
use mathlib.Core.List.{◌++◌}
use Prim.Native.Nat.{◌≤◌}
use native.Mathlib.Omega.{arith}
use borrow.Author.Tests.{eq-eqb, ne_eqb, lt-ltb, le-ltb, le-leb}
use borrow.Rule.Slice.PartMut.{mid_of}
use lib.ListN.{length, drop, set}
use Rattle.ucp_messages.specs.Uplink7.{uplink_fits}
use Rattle.ucp_answers.specs.Writes.{body_due}
use Rattle.ucp_messages.proofs.Uplink.{left, behind_length, put_behind}
use Rattle.ucp_messages.proofs.uplink_7.write.Goals as goal

pub returns-then-payload-ne435 : goal.returns-then-payload-ne435
unfolding body_due uplink_fits
returns-then-payload-ne435 c = record { answers = rw (ne_eqb _ _ c.if-payload-ne435.true); leaves = refl }

pub returns-then-output-lt436 : goal.returns-then-output-lt436
unfolding body_due uplink_fits
returns-then-output-lt436 c =
    let a = c.args in
    let exact : length a.payload.now ≡ 435 = omega arith in
    record {
      answers = rw (eq-eqb (length a.payload.now) 435 exact, exact, lt-ltb (length a.output.now) 436 c.if-output-lt436.true);
      leaves = refl;
    }

pub returns : goal.returns
unfolding body_due uplink_fits
returns c =
    let a = c.args in
    let e = c.store.ensures in
    let exact : length a.payload.now ≡ 435 = omega arith in
    let room : 436 ≤ length a.output.now = omega arith in
    let fits : length a.payload.now ≤ length (mid_of 1 (left a.output.now) (set a.output.now 0 7)) =
    omega (arith, behind_length a.output.now room) in
    let part = mid_of 1 (left a.output.now) (set a.output.now 0 7) in
    let stored : c.store.new.output ≡ a.payload.now ++ drop (length a.payload.now) part =
    e.1 ∙ rw (e.0 ∙ le-leb _ _ fits) in
    record {
      answers = rw (eq-eqb (length a.payload.now) 435 exact, exact, le-ltb (length a.output.now) 436 room);
      leaves = put_behind a.output.now a.payload.now room exact stored;
    }
