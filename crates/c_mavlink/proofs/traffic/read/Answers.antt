-- `c_mavlink::traffic::read` meets its contract: the fields are tested in the payload, which the struct then holds. Assumes nothing.
use Rattle.std.proofs.Common.{[], ◌∷◌, ◌++◌, List, ℕ, refl, sym, ap, ◌∙◌}
use Rattle.mavlink_frame.specs.Frame.{kind, mavlink_kind}
use Rattle.mavlink_frame.specs.Reader.{payload_at}
use Rattle.mavlink_messages.specs.declared.Message.TheVariants.{Traffic}
use Rattle.mavlink_messages.specs.Traffic246.{traffic_format}
use Rattle.c_mavlink.specs.Steps.{Taken}
use Rattle.c_mavlink.proofs.Parts.{payload_length}
use Rattle.c_mavlink.proofs.Structs.{traffic_lies, taken_stored}
use Rattle.c_mavlink.proofs.Ranges.{traffic_payload}
use Rattle.c_mavlink.proofs.Readers.{field_refused, read}
use Rattle.c_mavlink.proofs.traffic.read.Goals as goal

pub returns-then-not-fits : goal.returns-then-not-fits
unfolding mavlink_kind
returns-then-not-fits c =
    let s = c.args.input.now in
    let t : Taken (kind 246 38 184) s = c.in_ok-tested.ensures in
    field_refused _ _ (kind 246 38 184) traffic_format Traffic (λ h used p. refl) s t
    (sym (traffic_payload (payload_at 38 s) (payload_length 38 s t.room)) ∙ sym c.fits.ensures ∙ c.if-not-fits.true)

pub returns : goal.returns
unfolding mavlink_kind
returns c =
    let s = c.args.input.now in
    let t : Taken (kind 246 38 184) s = c.in_ok-tested.ensures in
    read _ _ (kind 246 38 184) traffic_format Traffic (λ h used p. refl) s t
    (sym (traffic_payload (payload_at 38 s) (payload_length 38 s t.room)) ∙ sym c.fits.ensures ∙ c.if-not-fits.false)
    c.put_sender.ensures
    (ap (λ (xs : List ℕ). xs ++ 0 ∷ 0 ∷ []) c.copy_from_slice.ensures.after ∙ taken_stored traffic_lies s c.type_inv.input t.room)
