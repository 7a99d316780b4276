-- `send` meets its contract: the body's writer refuses, or it and framing in place make up a send. Assumes nothing.
use Rattle.std.proofs.Common.{◌≡◌, ℕ, List, length, true, rules, arith, eqb-true}
use Rattle.ucp_messages.specs.Uplink7.{uplink_fits, uplink_body}
use Rattle.ucp_writer.proofs.Sends.{Sendable, send_refused, send_framed}
use Rattle.c_ucp_uplink.proofs.send.Goals as goal

-- what fits has so many octets
size : (payload : List ℕ) → uplink_fits payload ≡ true → length payload ≡ 435
unfolding uplink_fits
size payload h = eqb-true (length payload) 435 h

sendable : (payload : List ℕ) → Sendable (uplink_fits payload) (uplink_body payload)
sendable payload h = (omega (arith, size payload h), omega (arith, size payload h))

pub returns-in_err-octets : goal.returns-in_err-octets
returns-in_err-octets c =
    let p = c.args.payload.now in
    let s = send_refused (uplink_body p) c.args.buffer.now (search rules) (uplink_fits p) (sendable p) c.in_err-octets.ensures in
    search rules

pub returns : goal.returns
returns c =
    let p = c.args.payload.now in
    send_framed (uplink_body p) c.args.buffer.now (search rules) (uplink_fits p) (sendable p) c.in_ok-octets.ensures c.frame_in_place.ensures
