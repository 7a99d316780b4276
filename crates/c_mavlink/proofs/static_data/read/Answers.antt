-- `c_mavlink::static_data::read` meets its contract: the fields are tested in the payload, which the struct then holds. Assumes nothing.
use Rattle.std.proofs.Common.{ℕ, refl, sym, ap, ◌∙◌}
use Rattle.mavlink_frame.specs.Frame.{kind, mavlink_kind}
use Rattle.mavlink_frame.specs.Reader.{payload_at}
use Rattle.mavlink_messages.specs.declared.Message.TheVariants.{Static}
use Rattle.mavlink_messages.specs.Static201.{static_format}
use Rattle.c_mavlink.specs.Steps.{Taken}
use Rattle.c_mavlink.proofs.Parts.{payload_length}
use Rattle.c_mavlink.proofs.Static.{fits_in, static_payload}
use Rattle.c_mavlink.proofs.Readers.{field_refused, read}
use Rattle.c_mavlink.proofs.static_data.read.Goals as goal

pub returns-then-not-fits : goal.returns-then-not-fits
unfolding mavlink_kind
returns-then-not-fits c =
    let s = c.args.input.now in
    let p = payload_at 19 s in
    let t : Taken (kind 201 19 126) s = c.in_ok-tested.ensures in
    let tested = c.fits.ensures ∙ ap (λ (n : ℕ). fits_in n p) c.little_24.ensures ∙ static_payload p (payload_length 19 s t.room) in
    field_refused _ _ (kind 201 19 126) static_format Static (λ h used p. refl) s t (sym tested ∙ c.if-not-fits.true)

pub returns : goal.returns
unfolding mavlink_kind
returns c =
    let s = c.args.input.now in
    let p = payload_at 19 s in
    let t : Taken (kind 201 19 126) s = c.in_ok-tested.ensures in
    let tested = c.fits.ensures ∙ ap (λ (n : ℕ). fits_in n p) c.little_24.ensures ∙ static_payload p (payload_length 19 s t.room) in
    read _ _ (kind 201 19 126) static_format Static (λ h used p. refl) s t (sym tested ∙ c.if-not-fits.false) c.put_sender.ensures c.fill.ensures
