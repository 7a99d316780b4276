-- `c_ucp_receiver::receive_ignored` meets its contract. Assumes nothing.
use Rattle.std.proofs.Common.{rules}
use Rattle.c_ucp_receiver.proofs.Plain.{ignored}
use Rattle.c_ucp_receiver.proofs.receive_ignored.Goals as goal

pub returns : goal.returns
returns c = λ store output. ignored c.args.line.now store c.args.octet output (search rules) c.requires.0 c.requires.1 c.requires.2
