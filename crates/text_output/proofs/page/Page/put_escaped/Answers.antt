-- `Page::put_escaped` meets its contract, by the test. Assumes nothing.
use mathlib.Core.Path.{sym, ◌∙◌}
use Rattle.text_output.specs.Text.{backslashed}
use Rattle.text_output.proofs.Clipped.{then}
use Rattle.text_output.proofs.page.Page.put_escaped.Goals as goal

pub returns-then-is_plain : goal.returns-then-is_plain
unfolding backslashed
returns-then-is_plain c = rw (sym c.is_plain.ensures ∙ c.if-is_plain.true) c.put_octet.ensures

pub returns-else-is_plain : goal.returns-else-is_plain
unfolding backslashed
returns-else-is_plain c =
    rw (sym c.is_plain.ensures ∙ c.if-is_plain.false) (then c.put_octet-else-is_plain.ensures (then c.put_octet-else-is_plain-2.ensures c.put_pair.ensures))
