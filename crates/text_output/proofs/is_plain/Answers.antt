use Rattle.text_output.specs.Text.{is_plain}
use borrow.Author.Rules.{rules}
use Rattle.text_output.proofs.is_plain.Goals as goal

pub returns : goal.returns
unfolding is_plain
returns c = search rules
