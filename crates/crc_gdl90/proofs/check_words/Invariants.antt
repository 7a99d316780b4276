-- `crc_gdl90::check_words` meets its contract. The loop's invariant: what is left to divide, from the running remainder on,
-- has the remainder of all. Assumes nothing.
use mathlib.Core.Path.{◌≡◌}
use Prim.Native.Nat.{◌*◌}
use lib.ListN.{drop}
use Rattle.crc_polynomial.specs.Polynomial.{bits_of_octets, divided}
use Rattle.crc_gdl90.proofs.check_words.Given as goal

abbrev pub invariant-loop-word : goal.invariant-loop-word
invariant-loop-word l =
    divided l.check (bits_of_octets (drop (l.word-index * 8) l.octets)) ≡ divided l.fn.check (bits_of_octets l.octets)
