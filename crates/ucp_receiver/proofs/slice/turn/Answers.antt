-- `ucp_receiver::slice::turn` meets its contract: what is passed, and then an octet. Assumes nothing.
use Rattle.std.proofs.Common.{length, get_or, ◌∙◌, arith}
use Rattle.ucp_receiver.specs.Octet.{verdict_due, state_of}
use Rattle.ucp_receiver.proofs.slice.Laws.{stepped}
use Rattle.ucp_receiver.proofs.slice.turn.Goals as goal

pub returns-then-at-line : goal.returns-then-at-line
returns-then-at-line c =
    let line = c.args.line.now in
    let room = length c.args.output.now in
    let p = c.pass-passed in
    let r = c.receive-received.ensures in
    record {
      due = verdict_due (state_of p.result.receiver.rest p.new.store) (get_or line p.result.taken 0) room;
      moved = omega arith;
      within = omega arith;
      answers = r.answers;
      puts = r.puts;
      runs = p.ensures.runs room ∙ stepped _ _ _ _ line p.result.taken room c.if-at-line.true r.state r.account;
    }
