-- `c_ucp_report::put_32` meets its contract. Assumes nothing.
use Prim.Native.Nat.{◌/◌, ◌%◌}
use Rattle.c_ucp_report.proofs.Puts.{four_put}
use Rattle.c_ucp_report.proofs.put_32.Goals as goal

pub returns : goal.returns
returns c =
    let n = c.args.number in
    four_put c.args.message.now c.args.at (n % 16777216 % 65536 % 256) (n % 16777216 % 65536 / 256) (n % 16777216 / 65536) (n / 16777216)
