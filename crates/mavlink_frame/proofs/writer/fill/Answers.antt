-- `mavlink_frame::writer::fill` meets its contract: the payload is put, and then what is around it. Assumes nothing.
use mathlib.Core.Path.{sym, ap, ap₂, ◌∙◌}
use mathlib.Core.List.{List, ◌++◌}
use Prim.Native.Nat.{ℕ, ◌+◌}
use lib.ListN.{length, drop}
use Rattle.mavlink_frame.specs.Reader.{payload_at}
use Rattle.mavlink_frame.specs.Steps.{closed}
use Rattle.mavlink_frame.proofs.writer.Put.{payload_pasted, behind_pasted, frame_closed}
use Rattle.mavlink_frame.proofs.writer.fill.Goals as goal

pub returns : goal.returns
returns c =
    let k = c.args.kind in
    let h = c.args.header in
    let p = c.args.payload.now in
    let o = c.args.output.now in
    let room = c.requires.1 in
    let put = c.copy.ensures in
    let check = c.check_of-check in
    c.put_around.ensures
    ∙ ap₂ (λ (n : ℕ) (mid : List ℕ). closed k h (payload_at n mid) check.result ++ drop (n + 8) mid) (sym c.requires.0) put
    ∙ ap₂ (λ (q behind : List ℕ). closed k h q check.result ++ behind) (payload_pasted p o room) (behind_pasted p o room)
    ∙ ap (λ (xs : List ℕ). xs ++ drop (length p + 8) o) (frame_closed k h p check.ensures)
