-- `ucp_receiver::slice::pass` meets its contract, phase by phase. Assumes nothing.
use Rattle.ucp_receiver.proofs.slice.pass.Goals as goal

pub returns-in-Hunting : goal.returns-in-Hunting
returns-in-Hunting c = c.pass_ignored.ensures c.args.store.now

pub returns-in-BadEscape : goal.returns-in-BadEscape
returns-in-BadEscape c = c.pass_ignored-in-BadEscape.ensures c.args.store.now

pub returns-in-TooLong : goal.returns-in-TooLong
returns-in-TooLong c = c.pass_ignored-in-TooLong.ensures c.args.store.now
