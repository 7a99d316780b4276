-- `c_ucp_receiver::receive_plain` meets its contract. Assumes nothing.
use Rattle.std.proofs.Common.{rules}
use Rattle.c_ucp_receiver.proofs.Plain.{plain}
use Rattle.c_ucp_receiver.proofs.receive_plain.Goals as goal

pub returns : goal.returns
returns c = λ output.
    plain c.args.line.now c.args.store.now c.args.octet output (search rules) c.requires.0 c.requires.1 c.requires.2 c.requires.3
