-- `c_mavlink::traffic::write` meets its contract, by its two ways. Assumes nothing.
use Rattle.std.proofs.Common.{refl, sym, ◌∙◌}
use Rattle.mavlink_frame.specs.Frame.{mavlink_kind}
use Rattle.mavlink_messages.specs.declared.Message.TheVariants.{Traffic}
use Rattle.mavlink_messages.proofs.Written.{written}
use Rattle.c_lent.specs.Structs.{held}
use Rattle.c_mavlink.specs.Structs.{header_struct, traffic_struct}
use Rattle.c_mavlink.proofs.Structs.{traffic_lies, payload_held}
use Rattle.c_mavlink.proofs.Ranges.{traffic_held}
use Rattle.c_mavlink.proofs.Writers.{refused}
use Rattle.c_mavlink.proofs.traffic.write.Goals as goal

pub returns-then-not-fits : goal.returns-then-not-fits
returns-then-not-fits c =
    let a = c.args in
    refused (Traffic (held traffic_struct a.message.now)) (held header_struct a.header.now) a.output.now
    (sym (traffic_held a.message.now c.requires.0) ∙ sym c.fits.ensures ∙ c.if-not-fits.true)

pub returns : goal.returns
unfolding mavlink_kind
returns c =
    let a = c.args in
    written {m = Traffic (held traffic_struct a.message.now)} (held header_struct a.header.now) refl
    (sym (traffic_held a.message.now c.requires.0) ∙ sym c.fits.ensures ∙ c.if-not-fits.false)
    (payload_held traffic_lies a.message.now (λ i. (c.type_inv.message i).fits) c.requires.0)
    c.write.ensures
