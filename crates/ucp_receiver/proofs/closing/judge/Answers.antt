-- `ucp_receiver::closing::judge` meets its contract, by the decision at a flag in the values that it computes. Assumes nothing.
use Rattle.std.proofs.Common.{arith}
use Rattle.ucp_receiver.proofs.closing.Laws.{too_short, wrong_check, no_room, body_due}
use Rattle.ucp_receiver.proofs.closing.judge.Goals as goal

pub returns-then-octets-lt3 : goal.returns-then-octets-lt3
returns-then-octets-lt3 c = too_short c.args.octets.now c.args.room c.if-octets-lt3.true

pub returns-then-sent-check : goal.returns-then-sent-check
returns-then-sent-check c =
    wrong_check c.args.octets.now c.args.room _ _ (omega arith) c.check_sent-sent.ensures c.frame_check_by_shifts-check.ensures c.if-sent-check.true

pub returns-then-room-n : goal.returns-then-room-n
returns-then-room-n c =
    no_room c.args.octets.now c.args.room _ _ (omega arith) c.check_sent-sent.ensures c.frame_check_by_shifts-check.ensures (omega arith) (omega arith)

pub returns : goal.returns
returns c =
    body_due c.args.octets.now c.args.room _ _ (omega arith) c.check_sent-sent.ensures c.frame_check_by_shifts-check.ensures (omega arith) (omega arith)
