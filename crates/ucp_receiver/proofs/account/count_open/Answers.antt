-- `ucp_receiver::account::count_open` meets its contract. Assumes nothing.
use Rattle.std.proofs.Common.{ℕ, refl, rules}
use Rattle.ucp_receiver.specs.declared.Counts.{Counts}
use Rattle.ucp_receiver.specs.Account.{counted_open}
use Rattle.ucp_receiver.proofs.account.Counting.{many_rounded}
use Rattle.ucp_receiver.proofs.account.count_open.Goals as goal

pub returns : goal.returns
returns c =
    let a = c.args in
    let put : ℕ → Counts = λ k. record { flags = a.counts.flags; delivered = a.counts.delivered; refused = a.counts.refused; skipped = a.counts.skipped; unclosed = k } in
    many_rounded put counted_open (λ k. refl) a.counts.unclosed a.n c.rounded.result (search rules) c.rounded.ensures
