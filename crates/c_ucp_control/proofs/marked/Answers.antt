-- `c_ucp_control::marked` meets its contract. Assumes nothing.
use native.Mathlib.Omega.{arith}
use lib.Bits.{and_le_r}
use Rattle.c_ucp_control.proofs.Marks.{each}
use Rattle.c_ucp_control.proofs.marked.Goals as goal

pub overflow_add-result : goal.overflow_add-result
overflow_add-result c = omega (arith, and_le_r c.args.word 0x7F7F7F7F)

pub returns : goal.returns
returns c = each 4 c.args.word
