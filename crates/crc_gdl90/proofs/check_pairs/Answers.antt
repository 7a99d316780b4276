-- `crc_gdl90::check_pairs` meets its contract. Assumes nothing.
use mathlib.Core.Path.{◌≡◌, sym, ap, ◌∙◌}
use Prim.Native.Nat.{ℕ, ◌+◌, ◌*◌}
use native.Mathlib.Omega.{arith}
use lib.ListN.{drop}
use Rattle.field_words.proofs.Chunks.{chunk_octet}
use Rattle.crc_polynomial.specs.Polynomial.{bits_of_octets, divided}
use Rattle.crc_gdl90.proofs.Step.{pair_first, none_left}
use Rattle.crc_gdl90.proofs.check_pairs.Goals as goal

pub loop-pair-preserved : goal.loop-pair-preserved
loop-pair-preserved c =
    let l = c.loop-pair in
    let octets = c.args.octets.now in
    let i = l.pair-index * 2 in
    let front = c.as_chunks.ensures.front in
    let on : (l.pair-index + 1) * 2 ≡ i + 2 = omega arith in
    let none : i + 0 ≡ i = omega arith in
    let first = chunk_octet 2 octets l.pair-index front (omega arith) 0 (omega arith) in
    let second = chunk_octet 2 octets l.pair-index front (omega arith) 1 (omega arith) in
    ap (λ (n : ℕ). divided c.next_check_pair-check.result (bits_of_octets (drop n octets))) on
    ∙ ap (λ (r : ℕ). divided r (bits_of_octets (drop (i + 2) octets)))
    (c.next_check_pair-check.ensures.0 ∙ rw (first, second, none))
    ∙ sym (pair_first l.check octets i (omega arith))
    ∙ l.invariant

pub returns : goal.returns
returns c =
    let l = c.loop-pair in
    sym (none_left l.check c.args.octets.now (l.pair-index * 2) (omega arith)) ∙ l.invariant
