-- `crc_gdl90::frame_check` meets its contract. The loop's invariant: what is left to divide, from the running remainder on,
-- has the remainder of the whole body. Assumes nothing.
use mathlib.Core.Path.{◌≡◌}
use lib.ListN.{drop}
use Rattle.crc_polynomial.specs.Polynomial.{bits_of_octets, divided}
use Rattle.crc_gdl90.specs.Check.{frame_check}
use Rattle.crc_gdl90.proofs.frame_check.Given as goal

abbrev pub invariant-loop-octet : goal.invariant-loop-octet
invariant-loop-octet l = divided l.check (bits_of_octets (drop l.octet-index l.body)) ≡ frame_check l.body
