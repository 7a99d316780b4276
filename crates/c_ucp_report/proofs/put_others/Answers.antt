-- `c_ucp_report::put_others` meets its contract, number by number. Assumes nothing.
use mathlib.Core.Path.{◌∙◌, ap}
use Prim.Native.Nat.{ℕ, ◌/◌, ◌%◌}
use native.Mathlib.Omega.{arith}
use lib.ListN.{get_or, set, length-set}
use lib.Seq.{sets}
use Rattle.field_words.proofs.Digits.{eight_from}
use Rattle.c_ucp_report.specs.Steps.{halves_of, wide12}
use Rattle.c_lent.specs.Steps.{two_of}
use Rattle.c_ucp_report.proofs.Numbers.{read_track}
use Rattle.c_ucp_report.proofs.put_others.Goals as goal

pub put_halves-requires : goal.put_halves-requires
put_halves-requires c =
    let n = simp length-set at c.put_64.auto.output in
    omega (arith, n, c.put_16.auto.message, c.requires.1)

pub shape_of-message : goal.shape_of-message
shape_of-message c =
    c.put_halves.auto.message ∙ c.put_64.auto.output ∙ simp length-set c.put_16.auto.message

pub returns : goal.returns
returns c =
    let body = c.args.body.now in
    let o = c.args.message.now in
    let rate = c.extended_12-rate.ensures ∙ ap (λ (n : ℕ). wide12 (n % 1048576 / 256)) c.big_32-motion.ensures in
    let track = read_track (get_or body 14 0) (get_or body 15 0) (get_or body 16 0) (get_or body 17 0) (c.shared_slice_known-1.given 17).fits in
    let callsign = c.little_64.ensures ∙ eight_from body 19 (omega (arith, c.requires.0)) in
    let motion = c.put_16.ensures ∙ (λ i. sets o 24 (two_of (rate i))) in
    let text = c.put_64.ensures ∙ (λ i. sets (set (set (motion i) 26 (track i)) 27 (get_or body 18 0)) 28 (callsign i)) in
    c.put_halves.ensures ∙ (λ i. sets (text i) 36 (halves_of (c.octet.ensures i)))
