-- `ucp_receiver::slice::put_words` meets its contract. The loop's invariant: the first i times eight octets are stored as they are.
-- Assumes nothing.
use Rattle.std.proofs.Common.{◌*◌}
use Rattle.ucp_receiver.specs.Steps.{StoresPlain}
use Rattle.ucp_receiver.proofs.slice.put_words.Given as goal

abbrev pub invariant-loop-i : goal.invariant-loop-i
invariant-loop-i l = StoresPlain l.initial.store l.stored l.line (l.i * 8) l.store
