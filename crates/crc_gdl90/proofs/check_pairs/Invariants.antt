-- `crc_gdl90::check_pairs` meets its contract. The loop's invariant: what is left to divide, from the running remainder on,
-- has the remainder of all. Assumes nothing.
use mathlib.Core.Path.{◌≡◌}
use Prim.Native.Nat.{◌*◌}
use lib.ListN.{drop}
use Rattle.crc_polynomial.specs.Polynomial.{bits_of_octets, divided}
use Rattle.crc_gdl90.proofs.check_pairs.Given as goal

abbrev pub invariant-loop-pair : goal.invariant-loop-pair
invariant-loop-pair l =
    divided l.check (bits_of_octets (drop (l.pair-index * 2) l.octets)) ≡ divided l.fn.check (bits_of_octets l.octets)
