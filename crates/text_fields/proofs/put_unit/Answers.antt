-- `text_fields::put_unit` meets its contract: of its longest words. Assumes nothing.
use Rattle.text_fields.proofs.put_unit.Goals as goal

pub returns-in-FeetPerMinute : goal.returns-in-FeetPerMinute
returns-in-FeetPerMinute c = rw c.in-FeetPerMinute.is c.put_word-in-FeetPerMinute.ensures
