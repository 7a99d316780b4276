-- `mavlink_frame::writer::write_six` meets its contract, by its two answers. Assumes nothing.
use mathlib.Core.Path.{sym, ap, ◌∙◌}
use mathlib.Core.List.{[], ◌∷◌}
use Prim.Native.Nat.{◌+◌, ◌≤◌}
use native.Mathlib.Omega.{arith}
use borrow.Author.Tests.{eq-eqb, le-ltb}
use lib.ListN.{length}
use lib.Seq.{sets}
use Rattle.mavlink_frame.specs.Writer.{write_of}
use Rattle.mavlink_frame.proofs.writer.Put.{framed}
use Rattle.mavlink_frame.proofs.writer.write_six.Goals as goal

pub returns : goal.returns
unfolding write_of
returns c =
    let k = c.args.kind in
    let payload = c.args.payload.now in
    let output = c.args.output.now in
    let room = c.if-output-lt14.false in
    let wide : length payload + 8 ≤ length output = omega (arith, c.requires.1, room) in
    record {
      answers = rw (c.requires.1, eq-eqb _ _ (sym c.requires.0), le-ltb _ _ room);
      leaves = rw c.requires.1 at (framed payload (0 ∷ 0 ∷ []) output (omega arith) wide
          (c.put_64.ensures ∙ ap (sets output 6) c.six.ensures) k c.args.header (c.requires.0 ∙ sym c.requires.1)
          c.check_of_six-check.ensures c.put_around.ensures);
    }
