-- `text_output::decimal` meets its contract. Assumes nothing.
use native.Mathlib.Omega.{arith}
use native.Mathlib.Nat.{mod-lt}
use Rattle.text_output.proofs.Numerals.{decimal_digit}
use Rattle.text_output.proofs.decimal.Goals as goal

pub returns : goal.returns
returns c = (decimal_digit _ (mod-lt c.args.n (omega arith)), omega arith)
