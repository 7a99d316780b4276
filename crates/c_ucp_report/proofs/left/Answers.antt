-- `c_ucp_report::left` meets its contract, by the number that the octets make. Assumes nothing.
use native.Mathlib.Omega.{arith}
use Rattle.crc_polynomial.specs.Polynomial.{Octets}
use Rattle.c_ucp_report.proofs.Words.{number_from}
use Rattle.c_ucp_report.proofs.left.Goals as goal

pub returns : goal.returns
returns c =
    let body = c.args.body.now in
    let o : Octets c.args.body.now = λ i. (c.shared_slice_known-1.given i).fits in
    let is = number_from body 0 c.big_64-word.result (omega arith) c.big_64-word.type_inv c.big_64-word.ensures in
    (omega (arith, o 0, o 1, o 2, o 3, o 4, o 5, o 6, o 7), omega (arith, o 5, o 6, o 7), omega arith)
