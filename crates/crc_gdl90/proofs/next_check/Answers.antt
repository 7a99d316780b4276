-- `crc_gdl90::next_check` meets its contract, by the table's step. Assumes nothing.
use mathlib.Core.Path.{refl, ap, sym, ◌∙◌}
use Prim.Native.Nat.{ℕ, ◌+◌, ◌*◌, ◌/◌, ◌%◌}
use native.Mathlib.Omega.{arith}
use lib.Bits.{bit_xor}
use Rattle.crc_gdl90.specs.Steps.{by_table}
use Rattle.crc_gdl90.proofs.Step.{table_step}
use Rattle.crc_gdl90.proofs.next_check.Goals as goal

pub returns : goal.returns
unfolding by_table
returns c =
    let a = c.args in
    let f = c.ranges in (
      ap (λ (e : ℕ). bit_xor e (a.check % 256 * 256 + a.octet)) (c.requires (a.check / 256) (omega arith))
          ∙ sym (table_step a.check a.octet f.check.fits f.octet.fits),
      refl,
    )
