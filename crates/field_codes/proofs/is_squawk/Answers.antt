-- `field_codes::is_squawk` meets its contract: its tests of fractions are the rule's tests of digits. Assumes nothing.
use Rattle.field_codes.proofs.Digits.{runs}
use Rattle.field_codes.proofs.is_squawk.Goals as goal

pub returns : goal.returns
returns c = runs c.args.code
