-- The measure is the number of digits that are allowed.
use Rattle.text_output.proofs.page.Page.+put_numeral.Given as goal

abbrev pub decreases-put_numeral : goal.decreases-put_numeral
decreases-put_numeral l = l.most
