-- `ucp_writer::in_place::move_octets` meets its contract. The loop's invariant: the octets that are left, moved in the present buffer,
-- give the buffer with all of them. Assumes nothing.
use mathlib.Core.Path.{◌≡◌, ap}
use mathlib.Core.List.{List}
use Prim.Native.Nat.{ℕ, ◌+◌, ◌-◌, ◌≤◌, ◌<◌}
use native.Mathlib.Omega.{arith}
use lib.ListN.{length, get_or, take, drop}
use Rattle.ucp_frame.specs.Frame.{escaped, stuffed}
use Rattle.ucp_writer.specs.Steps.{ToMove}
use Rattle.ucp_writer.proofs.in_place.Moves.{octet_part, part_room, part_moved}
use Rattle.ucp_writer.proofs.in_place.move_octets.Goals as goal

-- the last octet that is left
cut : (left from : ℕ) → from < left → left - 1 + 1 ≡ left
cut left from h = omega arith

octet_room : {buffer final : List ℕ} {left end from : ℕ} → from < left → ToMove buffer left end final
    → length (escaped (get_or buffer (left - 1) 0)) ≤ end
octet_room {buffer} {final} {left} {end} {from} h t =
    omega (
      arith,
      ap length (octet_part buffer (left - 1) (omega (arith, t.moves.within))),
      part_room t 1 (left - 1) (cut left from h),
    )

pub overflow_sub-end : goal.overflow_sub-end
overflow_sub-end c = omega (arith, octet_room c.loop-at-test.true c.loop-at.invariant.1)

pub put-requires : goal.put-requires
put-requires c = omega (arith, octet_room c.loop-at-test.true c.loop-at.invariant.1, c.loop-at.invariant.1.moves.room)

pub loop-at-preserved : goal.loop-at-preserved
loop-at-preserved c =
    let l = c.loop-at in
    let h = c.loop-at-test.true in
    let octet : stuffed (take 1 (drop (l.at - 1) l.buffer)) ≡ escaped (get_or l.buffer (l.at - 1) 0) =
    octet_part l.buffer (l.at - 1) (omega (arith, l.invariant.1.moves.within)) in (
      omega arith,
      part_moved l.invariant.1 1 (l.at - 1) (cut l.at c.args.from h)
          (omega (arith, ap length octet, octet_room h l.invariant.1))
          (rw octet c.put.ensures.leaves),
    )
