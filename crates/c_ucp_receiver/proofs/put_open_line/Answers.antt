-- `c_ucp_receiver::put_open_line` meets its contract: what it does not write is as it should be. Assumes nothing.
use Rattle.std.proofs.Common.{rules}
use Rattle.c_ucp_receiver.proofs.Numbers.{open_line}
use Rattle.c_ucp_receiver.proofs.put_open_line.Goals as goal

pub returns : goal.returns
returns c =
    let p = c.requires in
    rw c.phase_number.ensures (open_line c.args.line.now c.args.receiver (search rules) p.1 p.2 p.3)
