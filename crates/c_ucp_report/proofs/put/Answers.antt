-- `c_ucp_report::put` meets its contract: the body's octets are put one behind the other. Assumes nothing.
use mathlib.Core.Path.{◌≡◌, ◌∙◌}
use native.Mathlib.Omega.{arith}
use lib.ListN.{length, get_or, set, length-set}
use lib.Seq.{sets}
use Rattle.field_words.proofs.Digits.{eight_from}
use Rattle.c_ucp_report.proofs.Held.{body_put}
use Rattle.c_ucp_report.proofs.put.Lts as lts
use Rattle.c_ucp_report.proofs.put.Tie as tie
use Rattle.c_ucp_report.proofs.put.Reads as reads
use Rattle.c_ucp_report.proofs.put.Goals as goal

abbrev From-After-halves : Type 0
From-After-halves = lts.After-halves tie.the-claims reads.Pre reads.Post

kept : (c : From-After-halves)
    → length c.put_64.new.output
    ≡ length c.args.output.now
kept c =
    c.put_64.auto.output ∙ simp length-set c.put_numbers.auto.output

pub bounds-output-27 : goal.bounds-output-27
bounds-output-27 c =
    omega (arith, kept c.before, c.requires.2)

pub returns : goal.returns
returns c =
    let m = c.args.message.now in
    let numbers = c.put_numbers.ensures in
    let callsign = c.little_64.ensures ∙ eight_from m 28 (omega (arith, c.requires.0)) in
    let others = c.put_64.ensures
    ∙ (λ i. sets (set (set (set (numbers i) 16 (get_or m 24 0)) 17 (get_or m 26 0)) 18 (get_or m 27 0)) 19 (callsign i))
    in
    body_put m c.requires.0 (λ i. (c.shared_slice_known-1.given i).fits) c.args.id c.requires.1 c.args.output.now c.requires.2
    (λ i. set (others i) 27 (c.halves.ensures i))

pub shape_of-output : goal.shape_of-output
shape_of-output c = simp length-set (kept c.before)
