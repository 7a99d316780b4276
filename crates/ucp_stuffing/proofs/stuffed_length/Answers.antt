-- `ucp_stuffing::stuffed_length` meets its contract. Assumes nothing.
use mathlib.Core.Path.{◌≡◌, ap}
use mathlib.Core.List.{List}
use Prim.Native.Nat.{ℕ, ◌+◌, ◌*◌, ◌/◌}
use native.Mathlib.Omega.{arith}
use lib.ListN.{length}
use Rattle.field_words.proofs.Chunks.{chunk}
use Rattle.ucp_frame.specs.Frame.{stuffed}
use Rattle.ucp_frame.proofs.Stuffing.{stuffed_length_most}
use Rattle.ucp_stuffing.proofs.Lengths.{part_length}
use Rattle.ucp_stuffing.proofs.stuffed_length.Goals as goal

pub overflow_add-count : goal.overflow_add-count
overflow_add-count c =
    let l = c.loop-word in
    let body = c.args.body.now in
    omega (
      arith,
      l.invariant,
      part_length 8 body (l.word-index * 8) _ (chunk 8 body l.word-index c.as_chunks.ensures.front (omega arith)),
      stuffed_length_most body,
      c.requires,
    )

pub loop-word-preserved : goal.loop-word-preserved
loop-word-preserved c =
    let l = c.loop-word in
    let body = c.args.body.now in
    let on : (l.word-index + 1) * 8 ≡ l.word-index * 8 + 8 = omega arith in
    rw on (omega (arith, l.invariant, part_length 8 body (l.word-index * 8) _ (chunk 8 body l.word-index c.as_chunks.ensures.front (omega arith))))

pub overflow_add-result : goal.overflow_add-result
overflow_add-result c =
    let l = c.loop-word in
    let body = c.args.body.now in
    let all : l.word-index ≡ length body / 8 = omega (arith, c.as_chunks.ensures.front_len) in
    omega (arith, rw all at l.invariant, ap (λ (xs : List ℕ). length (stuffed xs)) c.as_chunks.ensures.back, stuffed_length_most body, c.requires)
