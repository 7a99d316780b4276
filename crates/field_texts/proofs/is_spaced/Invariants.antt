-- `field_texts::is_spaced` meets its contract. The loop's invariant: what was passed, and what is left, make up the whole. Assumes nothing.
use mathlib.Core.Path.{◌≡◌}
use mathlib.Core.Bool.{◌&&◌}
use lib.ListN.{drop}
use Rattle.field_texts.specs.Text.{is_spaced}
use Rattle.field_texts.proofs.is_spaced.Given as goal

abbrev pub invariant-loop-octet : goal.invariant-loop-octet
invariant-loop-octet l = (l.spaced && is_spaced (drop l.octet-index l.text)) ≡ is_spaced l.text
