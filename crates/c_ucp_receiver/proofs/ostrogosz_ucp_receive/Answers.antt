-- `c_ucp_receiver::ostrogosz_ucp_receive` meets its contract, by the octet. Assumes nothing.
use Rattle.c_ucp_receiver.proofs.ostrogosz_ucp_receive.Goals as goal

pub returns-then-phase-lt5 : goal.returns-then-phase-lt5
returns-then-phase-lt5 c = c.receive_ignored.ensures c.args.store.now c.args.output.now
