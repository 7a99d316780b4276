-- `ucp_writer::in_place::move_words` meets its contract. Assumes nothing.
use mathlib.Core.Path.{◌≡◌}
use Prim.Native.Nat.{◌+◌, ◌*◌, ◌%◌}
use native.Mathlib.Omega.{arith}
use Rattle.ucp_writer.proofs.in_place.Moves.{none_left, then_moved}
use Rattle.ucp_writer.proofs.in_place.move_words.Goals as goal

pub returns : goal.returns
returns c =
    let l = c.loop-word in
    let first : c.args.octets % 8 + l.word * 8 ≡ c.args.octets % 8 = omega arith in
    none_left (then_moved (rw first at l.invariant) c.move_octets.ensures)
