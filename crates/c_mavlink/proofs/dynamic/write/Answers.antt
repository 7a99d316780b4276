-- `c_mavlink::dynamic::write` meets its contract, by its two ways. Assumes nothing.
use Rattle.std.proofs.Common.{refl, sym, ◌∙◌}
use Rattle.mavlink_frame.specs.Frame.{mavlink_kind}
use Rattle.mavlink_messages.specs.declared.Message.TheVariants.{Dynamic}
use Rattle.mavlink_messages.proofs.Written.{written}
use Rattle.c_lent.specs.Structs.{held}
use Rattle.c_mavlink.specs.Structs.{header_struct, dynamic_struct}
use Rattle.c_mavlink.proofs.Structs.{dynamic_lies, payload_held}
use Rattle.c_mavlink.proofs.Ranges.{dynamic_held}
use Rattle.c_mavlink.proofs.Writers.{refused}
use Rattle.c_mavlink.proofs.dynamic.write.Goals as goal

pub returns-then-not-fits : goal.returns-then-not-fits
returns-then-not-fits c =
    let a = c.args in
    refused (Dynamic (held dynamic_struct a.message.now)) (held header_struct a.header.now) a.output.now
    (sym (dynamic_held a.message.now c.requires.0) ∙ sym c.fits.ensures ∙ c.if-not-fits.true)

pub returns : goal.returns
unfolding mavlink_kind
returns c =
    let a = c.args in
    written {m = Dynamic (held dynamic_struct a.message.now)} (held header_struct a.header.now) refl
    (sym (dynamic_held a.message.now c.requires.0) ∙ sym c.fits.ensures ∙ c.if-not-fits.false)
    (payload_held dynamic_lies a.message.now (λ i. (c.type_inv.message i).fits) c.requires.0)
    c.write.ensures
