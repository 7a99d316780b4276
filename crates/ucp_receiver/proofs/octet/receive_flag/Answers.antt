-- `ucp_receiver::octet::receive_flag` meets its contract: the answer by `close`, the account by `count_flag`. Assumes nothing.
use Rattle.std.proofs.Common.{refl, ap, ◌∙◌}
use Rattle.ucp_frame.specs.Stretch.{Verdict}
use Rattle.ucp_receiver.specs.Account.{counted_flag}
use Rattle.ucp_receiver.specs.Octet.{state_after, counts_after, verdict_due}
use Rattle.ucp_receiver.proofs.octet.receive_flag.Goals as goal

pub returns : goal.returns
unfolding state_after counts_after verdict_due
returns c =
    let a = c.args in
    let e = c.close-answer.ensures in
    record {
      state = refl;
      account = c.count_flag.ensures a.store.now ∙ ap (λ (v : Verdict). counted_flag v a.receiver.counts) e.means;
      answers = e.answers;
      puts = e.puts;
    }
