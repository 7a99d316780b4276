-- `field_words::copies::copy` meets its contract: eight more stand in the output at each turn. Assumes nothing.
use mathlib.Core.Path.{◌≡◌}
use Prim.Native.Nat.{◌*◌, ◌≤◌}
use lib.ListN.{length}
use lib.Seq.{paste}
use Rattle.field_words.proofs.copies.copy.Given as goal

abbrev pub invariant-loop-i : goal.invariant-loop-i
invariant-loop-i l =
    (l.i * 8 ≤ length l.octets) × (length l.output ≡ length l.initial.output) × (l.output ≡ paste l.initial.output l.at l.octets (l.i * 8))
