-- `ucp_receiver::slice::pass_ignored` meets its contract, by the run over octets that are only counted. Assumes nothing.
use Rattle.ucp_receiver.specs.Octet.{state_of}
use Rattle.ucp_receiver.proofs.slice.Laws.{ignored}
use Rattle.ucp_receiver.proofs.slice.pass_ignored.Goals as goal

pub returns : goal.returns
returns c =
    let a = c.args in
    let n = c.to_flag-n in
    λ store. record {
      within = n.ensures.within;
      runs = λ room. rw c.count_octets.ensures (ignored (state_of a.receiver.rest store) c.requires n.result a.line.now a.receiver.counts room n.ensures.within n.ensures.other);
    }
