-- `Page::put_word` meets its contract, where it fits and where not. Assumes nothing.
use Rattle.std.proofs.Common.{rules}
use mathlib.Core.Path.{◌∙◌}
use native.Mathlib.Omega.{arith}
use Rattle.text_output.proofs.Clipped.{pasted}
use Rattle.text_output.proofs.Printed.{plain_same}
use Rattle.text_output.proofs.page.Page.put_word.Goals as goal

pub returns-then-word-self : goal.returns-then-word-self
returns-then-word-self c =
    let page = c.args.self.now in
    record {
      room = search rules;
      ends = omega (arith, c.if-self-lt-TEXT_ROOM.true, c.if-word-self.true);
      leaves = c.copy.ensures ∙ pasted page.room page.end c.args.word.now (search (rules, arith));
    }

pub returns-else-self-lt-TEXT_ROOM : goal.returns-else-self-lt-TEXT_ROOM
returns-else-self-lt-TEXT_ROOM c = rw (plain_same c.args.word.now) at c.put_printed.ensures
