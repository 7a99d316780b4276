-- `ucp_receiver::slice::put_plain` meets its contract. The loop's invariant: where those before the loop were stored as they are, the first
-- i octets are. Assumes nothing.
use Rattle.std.proofs.Common.{◌≡◌, ℕ, length, length-take, take, subst, sym, ◌∙◌, arith}
use Rattle.ucp_receiver.specs.Steps.{StoresPlain}
use Rattle.ucp_receiver.proofs.slice.Words.{puts_one, of_line}
use Rattle.ucp_receiver.proofs.slice.put_plain.Goals as goal

pub loop-i-preserved : goal.loop-i-preserved
loop-i-preserved c =
    λ store p. puts_one (c.loop-i.invariant store p) (omega (arith, c.requires, length-take {A = ℕ})) (omega arith) (sym c.is_escaped.ensures ∙ c.if-is_escaped.false)

pub returns-then-is_escaped : goal.returns-then-is_escaped
returns-then-is_escaped c = of_line c.min.result (c.loop-i.invariant c.args.store.now c.put_words-words.ensures)

pub returns : goal.returns
returns c =
    let a = c.args in
    let l = c.loop-i in
    let m = c.min.result in
    let p = l.invariant a.store.now c.put_words-words.ensures in
    let all : l.i ≡ length (take m a.line.now) = omega (arith, p.plain.within) in
    of_line m (subst (λ (n : ℕ). StoresPlain a.store.now a.stored (take m a.line.now) n l.store) all p)
