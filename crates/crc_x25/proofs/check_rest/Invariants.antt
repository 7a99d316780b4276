-- `crc_x25::check_rest` meets its contract. The loop's invariant: the octets that are left, from the running check on, have the
-- check of all. Assumes nothing.
use mathlib.Core.Path.{◌≡◌}
use mathlib.Core.List.{[], ◌∷◌, ◌++◌}
use Prim.Native.Nat.{◌*◌}
use lib.ListN.{drop}
use Rattle.crc_x25.specs.Check.{x25_from}
use Rattle.crc_x25.proofs.check_rest.Given as goal

abbrev pub invariant-loop-pair : goal.invariant-loop-pair
invariant-loop-pair l =
    x25_from l.check (drop (l.pair-index * 2) l.octets ++ l.extra ∷ []) ≡ x25_from l.fn.check (l.octets ++ l.extra ∷ [])
