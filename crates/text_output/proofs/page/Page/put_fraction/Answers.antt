-- `Page::put_fraction` meets its contract, with places and without. Assumes nothing.
use native.Mathlib.Omega.{arith}
use Rattle.std.proofs.Common.{rules}
use Rattle.field_words.specs.Words.{octets_up}
use Rattle.text_output.proofs.Numerals.{no_places, some_places}
use Rattle.text_output.proofs.Clipped.{then}
use Rattle.text_output.proofs.page.Page.put_fraction.Goals as goal

pub returns-then-places-eq0 : goal.returns-then-places-eq0
returns-then-places-eq0 c = rw (no_places c.args.places c.args.n c.if-places-eq0.true) c.put_nothing.ensures

pub returns-then-self : goal.returns-then-self
unfolding octets_up
returns-then-self c =
    rw (c.if-places-eq7.true, ← c.seven_places.ensures)
    (record { room = search rules; ends = omega (arith, c.if-self.true); leaves = c.put_64.ensures })

pub returns : goal.returns
returns c = rw (some_places c.args.places c.args.n c.if-places-eq0.false) (then c.put_octet.ensures c.put_numeral.ensures)
