-- `ucp_receiver::slice::put_plain` meets its contract. The loop's invariant: where those before the loop were stored as they are, the first
-- i octets are. Assumes nothing.
use Rattle.std.proofs.Common.{ℕ, List}
use Rattle.ucp_receiver.specs.Steps.{StoresPlain}
use Rattle.ucp_receiver.proofs.slice.put_plain.Given as goal

abbrev pub invariant-loop-i : goal.invariant-loop-i
invariant-loop-i l =
    (store : List ℕ) → StoresPlain store l.stored l.part l.words l.initial.store → StoresPlain store l.stored l.part l.i l.store
