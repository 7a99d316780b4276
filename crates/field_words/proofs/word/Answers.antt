-- `field_words::word` meets its contract: the octets are the number's bytes. Assumes nothing.
use mathlib.Core.Path.{sym, ◌∙◌}
use borrow.Author.Rules.{rules}
use Rattle.std.proofs.lemmas.Nat.{le_bytes_8}
use Rattle.field_words.proofs.Bytes.{bytes_up}
use Rattle.field_words.proofs.word.Goals as goal

pub returns : goal.returns
returns c = sym (bytes_up c.from_le_bytes.result) ∙ le_bytes_8 c.args.octets _ (search rules) (search rules) c.from_le_bytes.ensures
