-- A numeral by its last digit, or by its last two.
use Rattle.text_output.proofs.Clipped.{then}
use Rattle.text_output.proofs.Numerals.{no_digit, one_digit, last_digit, two_digits, pair_digits}
use Rattle.text_output.proofs.page.Page.+put_numeral.Goals as goal

pub returns-then-most-eq0 : goal.returns-then-most-eq0
returns-then-most-eq0 t c =
    let a = c.args in
    rw (no_digit a.padded a.base a.most a.n c.if-most-eq0.true) c.put_nothing.ensures

pub returns-then-padded-n : goal.returns-then-padded-n
returns-then-padded-n t c =
    rw (one_digit c.args.padded c.args.base c.args.most c.args.n c.if-most-eq0.false c.if-padded-n.true, ← c.digit.ensures) c.put_octet.ensures

pub returns-then-most-eq1 : goal.returns-then-most-eq1
returns-then-most-eq1 t c =
    rw (last_digit c.args.padded c.args.base c.args.most c.args.n c.if-most-eq1.true c.if-padded-n.false, ← c.remainder.ensures, ← c.digit-last.ensures) c.put_octet-then-most-eq1.ensures

pub returns-then-padded-more : goal.returns-then-padded-more
returns-then-padded-more t c =
    rw (two_digits c.args.padded c.args.base c.args.most c.args.n c.if-most-eq0.false c.if-most-eq1.false c.if-padded-n.false (rw c.quotient-more.ensures at c.if-padded-more.true), ← c.quotient-more.ensures, ← c.remainder.ensures, ← c.digit-last.ensures, ← c.digit-then-padded-more.ensures) c.put_two.ensures

pub returns : goal.returns
returns t c =
    rw (pair_digits c.args.padded c.args.base c.args.most c.args.n c.if-most-eq0.false c.if-most-eq1.false c.if-padded-n.false (rw c.quotient-more.ensures at c.if-padded-more.false), ← c.quotient-more.ensures, ← c.remainder.ensures, ← c.digit-last.ensures, ← c.quotient.ensures, ← c.remainder-2.ensures, ← c.digit-2.ensures) (then c.put_numeral.ensures c.put_two-2.ensures)
