-- `c_mavlink::static_data::write` meets its contract, by its three ways. Assumes nothing.
use mathlib.Core.Path.{sym, ap, ◌∙◌}
use Prim.Native.Nat.{ℕ}
use native.Mathlib.Omega.{arith}
use Rattle.field_layout.specs.Steps.{little32}
use Rattle.mavlink_messages.specs.declared.Message.TheVariants.{Static}
use Rattle.c_lent.specs.Structs.{held}
use Rattle.c_mavlink.specs.Structs.{header_struct, static_struct}
use Rattle.c_mavlink.proofs.Static.{fits_in, static_held, address_small, frame_length}
use Rattle.c_mavlink.proofs.Writers.{refused, no_room, put}
use Rattle.c_mavlink.proofs.static_data.write.Goals as goal

pub returns-then-not-fits : goal.returns-then-not-fits
returns-then-not-fits c =
    let m = c.args.message.now in
    let tested = c.fits.ensures ∙ ap (λ (n : ℕ). fits_in n m) c.little_32.ensures ∙ static_held m c.requires.0 in
    refused (Static (held static_struct m)) (held header_struct c.args.header.now) c.args.output.now
    (sym tested ∙ c.if-not-fits.true)

pub returns-then-output-lt27 : goal.returns-then-output-lt27
returns-then-output-lt27 c =
    let m = c.args.message.now in
    let v = held static_struct m in
    let tested = c.fits.ensures ∙ ap (λ (n : ℕ). fits_in n m) c.little_32.ensures ∙ static_held m c.requires.0 in
    no_room (Static v) (held header_struct c.args.header.now) c.args.output.now (sym tested ∙ c.if-not-fits.false)
    (omega (arith, frame_length v, c.if-output-lt27.true))

pub put_frame-requires : goal.put_frame-requires
put_frame-requires c =
    let m = c.args.message.now in
    let octets_fit = c.fits.ensures ∙ ap (λ (n : ℕ). fits_in n m) c.little_32.ensures in
    (c.requires.0, address_small (little32 m 0) m (sym octets_fit ∙ c.if-not-fits.false), c.requires.1, omega (arith, c.if-output-lt27.false))

pub returns : goal.returns
returns c =
    let m = c.args.message.now in
    let v = held static_struct m in
    let tested = c.fits.ensures ∙ ap (λ (n : ℕ). fits_in n m) c.little_32.ensures ∙ static_held m c.requires.0 in
    put (Static v) (held header_struct c.args.header.now) c.args.output.now (sym tested ∙ c.if-not-fits.false)
    (frame_length v) (omega (arith, c.if-output-lt27.false)) c.put_frame.ensures
