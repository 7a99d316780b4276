-- `ucp_receiver::slice::pass_plain` meets its contract, by the run over octets that are stored as they are. Assumes nothing.
use Rattle.ucp_receiver.proofs.slice.Laws.{stored_run}
use Rattle.ucp_receiver.proofs.slice.pass_plain.Goals as goal

pub returns : goal.returns
returns c =
    let a = c.args in
    let p = c.put_plain-n in
    record {
      within = p.ensures.plain.within;
      runs = stored_run a.receiver a.store.now a.line.now _ p.result _ c.requires p.ensures c.count_open.ensures;
    }
