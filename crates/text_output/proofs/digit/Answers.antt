-- `text_output::digit` meets its contract. Assumes nothing.
use Rattle.text_output.proofs.Printed.{hex_digit_lem}
use Rattle.text_output.proofs.digit.Goals as goal

pub returns : goal.returns
returns c = hex_digit_lem c.args.d c.requires
