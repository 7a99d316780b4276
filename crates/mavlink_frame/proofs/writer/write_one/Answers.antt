-- `mavlink_frame::writer::write_one` meets its contract, by its two answers. Assumes nothing.
use mathlib.Core.Path.{refl, sym}
use mathlib.Core.List.{[], ◌∷◌}
use native.Mathlib.Omega.{arith}
use borrow.Author.Tests.{eq-eqb, le-ltb}
use Rattle.mavlink_frame.specs.Writer.{write_of}
use Rattle.mavlink_frame.proofs.writer.Put.{framed}
use Rattle.mavlink_frame.proofs.writer.write_one.Goals as goal

pub returns : goal.returns
unfolding write_of
returns c =
    let room = c.if-output-lt9.false in
    record {
      answers = rw (eq-eqb _ _ (sym c.requires), le-ltb _ _ room);
      leaves = framed (c.args.octet ∷ []) [] c.args.output.now (omega arith) room refl c.args.kind c.args.header c.requires
          c.check_of_one-check.ensures c.put_around.ensures;
    }
