-- `c_ucp_report::right` meets its contract, by the number that the octets make. Assumes nothing.
use mathlib.Core.Path.{◌≡◌, ◌∙◌}
use Prim.Native.Nat.{◌/◌, ◌%◌}
use native.Mathlib.Omega.{arith}
use lib.ListN.{get_or}
use Rattle.crc_polynomial.specs.Polynomial.{Octets}
use Rattle.field_layout.specs.Steps.{big16}
use Rattle.c_ucp_report.proofs.Numbers.{read_speed}
use Rattle.c_ucp_report.proofs.Words.{number_from}
use Rattle.c_ucp_report.proofs.right.Goals as goal

pub returns : goal.returns
returns c =
    let body = c.args.body.now in
    let o : Octets c.args.body.now = λ i. (c.shared_slice_known-1.given i).fits in
    let is = number_from body 8 c.big_64-word.result (omega arith) c.big_64-word.type_inv c.big_64-word.ensures in (
      omega (arith, o 8, o 9, o 10, o 11, o 12, o 13, o 14, o 15),
      omega arith,
      omega (arith, o 11, o 12, o 13, o 14, o 15),
      omega (arith, o 13, o 14, o 15),
      let speed : c.big_64-word.result % 65536 / 16 ≡ big16 c.args.body.now 14 / 16 = omega (arith, o 14, o 15) in
          speed ∙ read_speed (get_or body 14 0) (get_or body 15 0) (get_or body 16 0) (get_or body 17 0) (o 16) (o 17),
    )
