-- `ucp_stuffing::escaped_length` meets its contract. Assumes nothing.
use mathlib.Core.Path.{sym, ap}
use lib.ListN.{length}
use Rattle.ucp_frame.proofs.Stuffing.{escaped_two, escaped_one}
use Rattle.ucp_stuffing.proofs.escaped_length.Goals as goal

pub returns-then-is_escaped : goal.returns-then-is_escaped
returns-then-is_escaped c = sym (ap length (escaped_two _ (sym c.if-is_escaped.ensures)))

pub returns-else-is_escaped : goal.returns-else-is_escaped
returns-else-is_escaped c = sym (ap length (escaped_one _ (sym c.if-is_escaped.ensures)))
