-- `send_message` meets its contract: the body's writer refuses, or it and framing in place make up a send. Assumes nothing.
use Rattle.std.proofs.Common.{rules}
use Rattle.ucp_messages.specs.Messages.{message_fits, message_body}
use Rattle.ucp_writer.proofs.Sends.{send_refused, send_framed}
use Rattle.ucp_send.proofs.Body.{sendable}
use Rattle.ucp_send.proofs.send_message.Goals as goal

pub returns-in-Err : goal.returns-in-Err
returns-in-Err c =
    let m = c.args.message in
    let p = c.args.payload.now in
    send_refused (message_body m p) c.args.buffer.now (search rules) (message_fits m p) (sendable m p) c.in-Err.ensures

pub returns-in_ok-framed-in-Ok : goal.returns-in_ok-framed-in-Ok
returns-in_ok-framed-in-Ok c =
    let m = c.args.message in
    let p = c.args.payload.now in
    send_framed (message_body m p) c.args.buffer.now (search rules) (message_fits m p) (sendable m p) c.in-Ok.ensures c.in_ok-framed-in-Ok.ensures

pub returns-in_err-framed-in-Ok : goal.returns-in_err-framed-in-Ok
returns-in_err-framed-in-Ok c =
    let m = c.args.message in
    let p = c.args.payload.now in
    let s = send_framed (message_body m p) c.args.buffer.now (search rules) (message_fits m p) (sendable m p) c.in-Ok.ensures c.in_err-framed-in-Ok.ensures in
    search rules
