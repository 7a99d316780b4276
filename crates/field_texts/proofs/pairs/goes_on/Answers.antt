-- `field_texts::pairs::goes_on` meets its contract. Assumes nothing.
use Rattle.field_texts.specs.Pairs.{goes_on}
use Rattle.field_texts.proofs.pairs.goes_on.Goals as goal

pub returns : goal.returns
unfolding goes_on
returns c = rw c.is_letter_or_digit.ensures
