-- `field_layout::store` meets its contract. The loop's invariant: the first i octets are stored, and the rest is as it was. Assumes
-- nothing.
use Rattle.std.proofs.Common.{◌≡◌, ◌++◌, ◌≤◌, length, take, drop}
use Rattle.field_layout.proofs.store.Given as goal

abbrev pub invariant-loop-i : goal.invariant-loop-i
invariant-loop-i l =
    (length l.octets ≤ length l.initial.output)
    × (length l.output ≡ length l.initial.output)
    × (l.output ≡ take l.i l.octets ++ drop l.i l.initial.output)
