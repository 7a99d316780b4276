-- `ucp_writer::fill_pairs` meets its contract. Assumes nothing.
use mathlib.Core.Path.{◌≡◌}
use Prim.Native.Nat.{◌+◌, ◌*◌}
use native.Mathlib.Omega.{arith}
use Rattle.field_words.proofs.Chunks.{chunk_octet}
use Rattle.output_writing.proofs.ToPut.{last_room, last_put}
use Rattle.ucp_writer.proofs.Rest.{pair_room, pair_put, closing_left}
use Rattle.ucp_writer.proofs.fill_pairs.Goals as goal

pub put_pair-at-requires : goal.put_pair-at-requires
put_pair-at-requires c =
    let l = c.loop-pair in
    let octets = c.args.octets.now in
    let i = l.pair-index * 2 in
    let front = c.as_chunks.ensures.front in
    let none : i + 0 ≡ i = omega arith in
    let first = chunk_octet 2 octets l.pair-index front (omega arith) 0 (omega arith) in
    let second = chunk_octet 2 octets l.pair-index front (omega arith) 1 (omega arith) in
    rw (first, second, none) (pair_room l.check octets i l.invariant (omega arith))

pub loop-pair-preserved : goal.loop-pair-preserved
loop-pair-preserved c =
    let l = c.loop-pair in
    let octets = c.args.octets.now in
    let i = l.pair-index * 2 in
    let front = c.as_chunks.ensures.front in
    let none : i + 0 ≡ i = omega arith in
    let on : (l.pair-index + 1) * 2 ≡ i + 2 = omega arith in
    let first = chunk_octet 2 octets l.pair-index front (omega arith) 0 (omega arith) in
    let second = chunk_octet 2 octets l.pair-index front (omega arith) 1 (omega arith) in
    let put = rw (first, second, none) at c.put_pair-at.ensures in
    let checked = rw (first, second, none) at c.next_check_pair-check.ensures.0 in
    rw on (pair_put l.check octets i l.invariant (omega arith) put checked)

pub close-requires : goal.close-requires
close-requires c =
    let l = c.loop-pair in
    last_room (closing_left l.check c.args.octets.now (l.pair-index * 2) l.invariant (omega arith))

pub returns : goal.returns
returns c =
    let l = c.loop-pair in
    let p = last_put (closing_left l.check c.args.octets.now (l.pair-index * 2) l.invariant (omega arith)) c.close.ensures in
    record { ends = p.0; leaves = p.1 }
