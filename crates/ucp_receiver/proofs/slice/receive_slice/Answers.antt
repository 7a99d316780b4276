-- `ucp_receiver::slice::receive_slice` meets its contract. The loop's invariant: the run over the slice is the run over the rest of it,
-- behind the octets taken so far, and nothing was put out. Assumes nothing.
use Rattle.std.proofs.Common.{◌≡◌, ℕ, ◌-◌, length, refl, ap, ◌∙◌, arith, rules, tests}
use Rattle.ucp_frame.specs.Stretch.{silent}
use Rattle.ucp_receiver.specs.Octet.{state_of}
use Rattle.ucp_receiver.proofs.slice.Laws.{ended_by, used_up, takes}
use Rattle.ucp_receiver.proofs.slice.receive_slice.Goals as goal

pub returns : goal.returns
returns c =
    let l = c.loop-rest in
    let empty : length l.rest.now ≡ 0 = search (rules, tests) in
    let all : length c.args.line.now - length l.rest.now ≡ length c.args.line.now = omega arith in
    takes _ _ _ _ _ _ _ silent
    (l.invariant.runs ∙ used_up _ _ l.rest.now _ _ empty ∙ ap (λ (n : ℕ). ended_by (state_of l.receiver.rest l.store) l.receiver.counts n silent) all)
    refl l.invariant.quiet
