-- `mavlink_frame::writer::check_of_few` meets its contract: the check over header, payload and extra in parts. Assumes nothing.
use mathlib.Core.Path.{ap, ◌∙◌}
use mathlib.Core.List.{[], ◌∷◌, ◌++◌}
use Prim.Native.Nat.{ℕ}
use Rattle.crc_x25.specs.Check.{x25_from}
use Rattle.crc_x25.proofs.Step.{after}
use Rattle.mavlink_frame.proofs.writer.check_of_few.Goals as goal

pub returns : goal.returns
returns c =
    let a = c.args in
    let k = a.kind in
    let h = a.header in
    let rest = a.payload.now ++ k.extra ∷ [] in
    c.x25_after.ensures
    ∙ ap (λ (n : ℕ). x25_from n rest) c.x25_five-head.ensures
    ∙ after (k.length ∷ h.sequence ∷ h.system ∷ h.component ∷ k.id ∷ []) rest
