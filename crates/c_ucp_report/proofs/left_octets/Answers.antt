-- `c_ucp_report::left_octets` meets its contract, octet by octet. Assumes nothing.
use mathlib.Core.Path.{◌∙◌}
use mathlib.Core.List.{[], ◌∷◌}
use Prim.Native.Nat.{◌/◌, ◌%◌, ◌<◌}
use native.Mathlib.Omega.{arith}
use Rattle.c_ucp_report.proofs.Words.{turned_eight}
use Rattle.c_ucp_report.proofs.Numbers.{octet_lt, halves_lt}
use borrow.Author.Rules.{rules}
use Rattle.c_ucp_report.proofs.left_octets.Goals as goal

pub halves-first-requires : goal.halves-first-requires
halves-first-requires c = (c.requires.1.alert, c.requires.1.kind)

pub left_word-requires : goal.left_word-requires
left_word-requires c =
    let a = c.little_32-address.ensures in
    let small = c.requires.1.address in
    (omega arith, omega arith)

pub returns : goal.returns
returns c =
    let z = c.requires.1 in
    let id = c.args.id in
    let id-lt : c.args.id < 256 = search rules in
    let first = c.halves-first.ensures in
    let address = c.little_32-address.ensures in
    let latitude = c.little_32-latitude.ensures in
    let f = c.halves-first.result in
    let a = c.little_32-address.result in
    let l = c.little_32-latitude.result % 16777216 in
    let f_lt : c.halves-first.result < 256 = halves_lt first z.alert z.kind in
    let a_lt : c.little_32-address.result < 16777216 = omega (arith, z.address) in
    let (a0, a1, a2) = octet_lt a a_lt in
    let (l0, l1, l2) = octet_lt l (omega arith) in
    turned_eight c.left_word.result c.turned.result (l % 65536 % 256) (l % 65536 / 256) (l / 65536)
    (a % 65536 % 256) (a % 65536 / 256) (a / 65536) f id l2 l1 l0 a2 a1 a0 f_lt id-lt c.left_word.ensures
    c.turned.ensures
    ∙ (λ i. id
    ∷ first i
    ∷ address i / 65536
    ∷ address i % 65536 / 256
    ∷ address i % 65536 % 256
    ∷ latitude i % 16777216 / 65536
    ∷ latitude i % 16777216 % 65536 / 256
    ∷ latitude i % 16777216 % 65536 % 256
    ∷ [])
