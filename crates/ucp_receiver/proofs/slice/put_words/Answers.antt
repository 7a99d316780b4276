-- `ucp_receiver::slice::put_words` meets its contract. The loop's invariant: the first i times eight octets are stored as they are.
-- Assumes nothing.
use Rattle.std.proofs.Common.{◌≡◌, ℕ, ◌*◌, ◌/◌, length, subst, arith, rules, tests}
use Rattle.ucp_receiver.specs.Steps.{StoresPlain}
use Rattle.ucp_receiver.proofs.slice.Words.{none_put, puts_word}
use Rattle.ucp_receiver.proofs.slice.put_words.Goals as goal

pub loop-i-init : goal.loop-i-init
loop-i-init c = none_put c.args.store.now c.args.line.now c.args.stored (omega (arith, c.requires))

pub loop-i-preserved : goal.loop-i-preserved
loop-i-preserved c =
    let l = c.loop-i in
    rw c.put_64.ensures (puts_word l.invariant _ c.requires (omega arith) c.little_64-word.ensures (c.is_plain.ensures (search (rules, tests))))

pub returns : goal.returns
returns c =
    let a = c.args in
    let l = c.loop-i in
    let all : l.i ≡ length a.line.now / 8 = omega (arith, l.invariant.plain.within) in
    subst (λ (n : ℕ). StoresPlain a.store.now a.stored a.line.now (n * 8) l.store) all l.invariant
