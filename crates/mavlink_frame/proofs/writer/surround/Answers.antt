-- `mavlink_frame::writer::surround` meets its contract: the check is that of the payload in the output. Assumes nothing.
use mathlib.Core.Path.{◌≡◌, ap, ◌∙◌}
use mathlib.Core.List.{List, ◌++◌}
use Prim.Native.Nat.{ℕ, ◌+◌, ◌-◌}
use native.Mathlib.Omega.{arith}
use lib.ListN.{drop}
use Rattle.crc_x25.specs.Check.{x25}
use Rattle.mavlink_frame.specs.Frame.{covered}
use Rattle.mavlink_frame.specs.Reader.{payload_at}
use Rattle.mavlink_frame.proofs.writer.Put.{frame_closed}
use Rattle.mavlink_frame.proofs.writer.surround.Goals as goal

pub returns : goal.returns
returns c =
    let k = c.args.kind in
    let h = c.args.header in
    let o = c.args.output.now in
    let n : k.length + 6 - 6 ≡ k.length = omega arith in
    let check = c.check_of-check.ensures ∙ ap (λ (m : ℕ). x25 (covered k h (payload_at m o))) n in
    c.put_around.ensures
    ∙ ap (λ (xs : List ℕ). xs ++ drop (k.length + 8) o) (frame_closed k h (payload_at k.length o) check)
