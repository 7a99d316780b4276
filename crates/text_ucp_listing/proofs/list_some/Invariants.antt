-- `text_ucp_listing::list_some` meets its contract. The loop's invariant: the lines so far, with those of the octets that are left,
-- make up the whole. Assumes nothing.
use lib.ListN.{length}
use Rattle.ucp_receiver.specs.Octet.{state_of}
use Rattle.text_ucp_listing.specs.Lists.{lines}
use Rattle.text_ucp_listing.proofs.Runs.{SoFar}
use Rattle.text_ucp_listing.proofs.list_some.Given as goal

abbrev pub invariant-loop-store : goal.invariant-loop-store
invariant-loop-store l =
    SoFar (lines (state_of l.initial.receiver.rest l.initial.store) l.initial.receiver.counts l.initial.room l.line (length l.initial.text)) l.line l.initial.text (state_of l.receiver.rest l.store) l.receiver.counts l.room l.text l.rest l.at

abbrev pub decreases-loop-store : goal.decreases-loop-store
decreases-loop-store l = length l.rest
