-- `c_ucp_report::put_halves` meets its contract. Assumes nothing.
use Prim.Native.Nat.{◌/◌, ◌%◌}
use Rattle.c_ucp_report.proofs.Puts.{two_put}
use Rattle.c_ucp_report.proofs.put_halves.Goals as goal

pub returns : goal.returns
returns c = two_put c.args.message.now c.args.at (c.args.octet / 16) (c.args.octet % 16)
