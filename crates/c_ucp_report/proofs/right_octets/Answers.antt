-- `c_ucp_report::right_octets` meets its contract, octet by octet. Assumes nothing.
use mathlib.Core.Path.{◌∙◌, ap, ap₂}
use mathlib.Core.List.{[], ◌∷◌}
use Prim.Native.Nat.{ℕ, ◌+◌, ◌*◌, ◌/◌, ◌%◌, ◌<◌}
use native.Mathlib.Omega.{arith}
use lib.ListN.{get_or}
use Rattle.c_ucp_report.proofs.Words.{turned_eight}
use Rattle.c_ucp_report.proofs.Numbers.{octet_lt, halves_lt, two_lt}
use Rattle.c_ucp_report.proofs.right_octets.Goals as goal

pub height_of-height-requires : goal.height_of-height-requires
height_of-height-requires c =
    let e = c.little_16.ensures in
    (omega (arith, c.requires.1.altitude), c.requires.1.miscellaneous)

pub halves-integrity-requires : goal.halves-integrity-requires
halves-integrity-requires c =
    (c.requires.1.nic, c.requires.1.nacp)

pub motion_of-motion-requires : goal.motion_of-motion-requires
motion_of-motion-requires c =
    let e = c.little_16-2.ensures in
    (omega (arith, c.requires.1.speed), omega arith)

pub returns : goal.returns
returns c =
    let m = c.args.message.now in
    let z = c.requires.1 in
    let longitude = c.little_32-longitude.ensures in
    let integrity = c.halves-integrity.ensures in
    let height = c.height_of-height.ensures ∙ ap (λ (n : ℕ). n * 16 + get_or m 18 0) c.little_16.ensures in
    let motion = c.motion_of-motion.ensures
    ∙ ap₂ (λ (v r : ℕ). v * 16 + r % 4096 / 256) c.little_16-2.ensures c.little_16-rate.ensures
    in
    let g = c.little_32-longitude.result % 16777216 in
    let h = c.height_of-height.result in
    let i = c.halves-integrity.result in
    let v = c.motion_of-motion.result in
    let i_lt : c.halves-integrity.result < 256 = halves_lt integrity z.nic z.nacp in
    let h-lt : c.height_of-height.result < 65536 = omega (arith, height, z.altitude, z.miscellaneous) in
    let v-lt : c.motion_of-motion.result < 65536 = omega (arith, motion, z.speed) in
    let (g0, g1, g2) = octet_lt g (omega arith) in
    let (h0, h1) = two_lt h h-lt in
    let (v0, v1) = two_lt v v-lt in
    turned_eight c.right_word.result c.turned.result (v % 256) (v / 256) i (h % 256) (h / 256)
    (g % 65536 % 256) (g % 65536 / 256) (g / 65536) v1 v0 i_lt h1 h0 g2 g1 g0 c.right_word.ensures c.turned.ensures
    ∙ (λ j. longitude j % 16777216 / 65536
    ∷ longitude j % 16777216 % 65536 / 256
    ∷ longitude j % 16777216 % 65536 % 256
    ∷ height j / 256
    ∷ height j % 256
    ∷ integrity j
    ∷ motion j / 256
    ∷ motion j % 256
    ∷ [])

pub right_word-requires : goal.right_word-requires
right_word-requires c = omega arith
