-- `text_output::seven_places` meets its contract: a digit in each octet. Assumes nothing.
use mathlib.Core.Path.{refl}
use native.Mathlib.Omega.{arith}
use Rattle.field_words.proofs.Digits.{up_eight}
use Rattle.text_output.proofs.Numerals.{seven_places}
use Rattle.text_output.proofs.seven_places.Goals as goal

pub returns : goal.returns
returns c =
    rw (seven_places c.args.n, ← c.decimal.ensures.0, ← c.decimal-2.ensures.0, ← c.decimal-3.ensures.0, ← c.decimal-4.ensures.0, ← c.decimal-5.ensures.0, ← c.decimal-6.ensures.0, ← c.decimal-7.ensures.0)
    (up_eight _ 46 c.decimal.result c.decimal-2.result c.decimal-3.result c.decimal-4.result c.decimal-5.result c.decimal-6.result c.decimal-7.result (omega arith) c.decimal.ensures.1 c.decimal-2.ensures.1 c.decimal-3.ensures.1 c.decimal-4.ensures.1 c.decimal-5.ensures.1 c.decimal-6.ensures.1 c.decimal-7.ensures.1 refl)
