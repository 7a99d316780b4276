-- `mavlink_frame::writer::put_around` meets its contract: header, payload and check, one behind the other. Assumes nothing.
use mathlib.Core.Path.{◌≡◌, sym, ap, ◌∙◌, subst}
use mathlib.Core.List.{◌++◌}
use Prim.Native.Nat.{ℕ, ◌+◌, ◌≤◌}
use native.Mathlib.Omega.{arith}
use lib.ListN.{length, take, drop, length-drop}
use lib.Seq.{sets, length-take-le}
use Rattle.mavlink_frame.specs.Reader.{payload_at}
use Rattle.mavlink_frame.specs.Steps.{low_first, closed}
use Rattle.mavlink_frame.proofs.writer.Put.{ahead_put, frame_put}
use Rattle.mavlink_frame.proofs.writer.put_around.Goals as goal

pub returns : goal.returns
returns c =
    let k = c.args.kind in
    let h = c.args.header in
    let check = c.args.check in
    let o = c.args.output.now in
    let p = payload_at k.length o in
    let n : length p ≡ k.length = length-take-le k.length (drop 6 o) (omega (arith, length-drop 6 o)) in
    let room : length p + 8 ≤ length o = omega arith in
    let mid = c.put_header.new.output in
    let ahead = c.put_header.ensures
    ∙ ahead_put k h p o room (ap (λ (m : ℕ). take m (drop 6 o)) (sym n)) in
    c.put_check.ensures
    ∙ subst (λ (m : ℕ). sets mid (m + 6) (low_first check) ≡ closed k h p check ++ drop (m + 8) o) n
    (frame_put k h p o room check mid ahead)
