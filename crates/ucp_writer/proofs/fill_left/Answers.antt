-- `ucp_writer::fill_left` meets its contract. Assumes nothing.
use mathlib.Core.Path.{◌≡◌, ap, ◌∙◌}
use mathlib.Core.List.{List}
use Prim.Native.Nat.{ℕ, ◌+◌, ◌*◌, ◌/◌}
use native.Mathlib.Omega.{arith}
use lib.ListN.{length}
use Rattle.field_words.specs.Words.{octets_up}
use Rattle.field_words.proofs.Chunks.{chunk}
use Rattle.crc_polynomial.specs.Polynomial.{bits_of_octets, divided}
use Rattle.output_writing.proofs.ToPut.{last_room, last_put}
use Rattle.ucp_writer.proofs.Rest.{eight_room, eight_put}
use Rattle.ucp_writer.proofs.fill_left.Goals as goal

pub put_eight-at-requires : goal.put_eight-at-requires
put_eight-at-requires c =
    let l = c.loop-word in
    let octets = c.args.octets.now in
    let is = c.word-word.ensures ∙ chunk 8 octets l.word-index c.as_chunks.ensures.front (omega arith) in
    eight_room l.check octets (l.word-index * 8) l.invariant _ is

pub loop-word-preserved : goal.loop-word-preserved
loop-word-preserved c =
    let l = c.loop-word in
    let octets = c.args.octets.now in
    let is = c.word-word.ensures ∙ chunk 8 octets l.word-index c.as_chunks.ensures.front (omega arith) in
    let on : (l.word-index + 1) * 8 ≡ l.word-index * 8 + 8 = omega arith in
    rw on (eight_put l.check octets (l.word-index * 8) l.invariant (octets_up 8 c.word-word.result) is c.put_eight-at.ensures
    (c.next_check_eight-check.ensures.0 ∙ ap (λ (xs : List ℕ). divided l.check (bits_of_octets xs)) c.turned.ensures))

pub fill_pairs-requires : goal.fill_pairs-requires
fill_pairs-requires c =
    let l = c.loop-word in
    let all : l.word-index ≡ length c.args.octets.now / 8 = omega (arith, c.as_chunks.ensures.front_len) in
    (omega (arith, c.as_chunks.ensures.back_len, c.requires.0), last_room (rw (all, ← c.as_chunks.ensures.back) at l.invariant))

pub returns : goal.returns
returns c =
    let l = c.loop-word in
    let all : l.word-index ≡ length c.args.octets.now / 8 = omega (arith, c.as_chunks.ensures.front_len) in
    let p = last_put (rw (all, ← c.as_chunks.ensures.back) at l.invariant) c.fill_pairs.ensures in
    record { ends = p.0; leaves = p.1 }
