-- `ucp_writer::fill` meets its contract: the flag, the first octets, and what is left behind them. Assumes nothing.
use mathlib.Core.Path.{◌≡◌, sym, ap, ◌∙◌}
use Prim.Native.Nat.{ℕ}
use native.Mathlib.Omega.{arith}
use borrow.Author.Rules.{rules}
use lib.ListN.{length, drop, length-set}
use lib.Seq.{sets}
use Rattle.ucp_frame.specs.Frame.{flag, frame}
use Rattle.ucp_writer.specs.Steps.{frame_rest}
use Rattle.ucp_stuffing.proofs.Both.{both}
use Rattle.ucp_writer.proofs.Rest.{frame_rest_lem, frame_put}
use Rattle.ucp_writer.proofs.Head.{rest_head, head_size}
use Rattle.ucp_writer.proofs.fill.Goals as goal

pub bounds-output-0 : goal.bounds-output-0
bounds-output-0 c = omega (arith, ap length (frame_rest_lem c.args.body.now))

pub put_head-at-requires : goal.put_head-at-requires
put_head-at-requires c =
    (search rules, search rules, simp length-set (omega (arith, head_size c.head_length-start.result c.args.body.now, c.requires)))

pub fill_words-requires : goal.fill_words-requires
fill_words-requires c =
    let k = c.head_length-start in
    let body = c.args.body.now in
    let same = ap (λ (r : ℕ). length (frame_rest r (drop k.result body))) c.head_check.ensures in
    (k.ensures.1, k.ensures.2, omega (arith, head_size k.result body, same, c.requires, c.put_head-at.ensures.ends, c.put_head-at.auto.output, length-set c.args.output.now 0 flag))

pub returns : goal.returns
returns c =
    let k = c.head_length-start.result in
    let body = c.args.body.now in
    let output = c.args.output.now in
    let put = rw (sym (rest_head k body)) at (both c.put_head-at.ensures (rw c.head_check.ensures at c.fill_words.ensures)) in
    let e : c.fill_words.result ≡ length (frame body) = omega (arith, put.ends, ap length (frame_rest_lem body)) in
    (e, put.leaves ∙ ap (sets output 0) (sym (frame_rest_lem body)) ∙ rw e (frame_put body output c.requires))
