-- `ucp_stuffing::put` meets its contract: an octet takes two places or one. Assumes nothing.
use mathlib.Core.Path.{refl, sym, ap}
use native.Mathlib.Numerals.{add-one}
use native.Mathlib.Omega.{arith}
use lib.ListN.{length, length-set}
use Rattle.ucp_frame.proofs.Stuffing.{escaped_two, escaped_one}
use Rattle.ucp_stuffing.proofs.put.Goals as goal

pub bounds-output-at : goal.bounds-output-at
bounds-output-at c = omega (arith, ap length (escaped_two c.args.octet (sym c.if-is_escaped.ensures)))

pub bounds-output-at-then-is_escaped : goal.bounds-output-at-then-is_escaped
bounds-output-at-then-is_escaped c = simp length-set (omega (arith, ap length (escaped_two c.args.octet (sym c.if-is_escaped.ensures))))

pub bounds-output-at-else-is_escaped : goal.bounds-output-at-else-is_escaped
bounds-output-at-else-is_escaped c = omega (arith, ap length (escaped_one c.args.octet (sym c.if-is_escaped.ensures)))

pub returns-then-is_escaped : goal.returns-then-is_escaped
returns-then-is_escaped c = rw (escaped_two c.args.octet (sym c.if-is_escaped.ensures)) (record { ends = refl; leaves = rw add-one })

pub returns-else-is_escaped : goal.returns-else-is_escaped
returns-else-is_escaped c = rw (escaped_one c.args.octet (sym c.if-is_escaped.ensures)) (record { ends = refl; leaves = refl })
