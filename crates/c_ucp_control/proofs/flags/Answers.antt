-- `c_ucp_control::flags` meets its contract: antt computes it at every octet. Assumes nothing.
use mathlib.Core.Path.{◌≡◌, refl}
use Prim.Native.Nat.{◌+◌, ◌*◌, ◌/◌}
use native.Mathlib.Omega.{arith}
use lib.Bits.{bit_and, and_le_r}
use Rattle.crc_polynomial.proofs.Linear.{up_from, everywhere}
use Rattle.field_words.specs.Words.{octets_up}
use Rattle.c_ucp_control.specs.Steps.{state_fields}
use Rattle.c_ucp_control.proofs.flags.Goals as goal

computed : up_from (λ s. octets_up 8 (bit_and (s * 0x1008020100804) 0x1030101010100 + s / 128)) 256 0 ≡ up_from state_fields 256 0
unfolding octets_up
computed = refl

pub overflow_add-result : goal.overflow_add-result
overflow_add-result c = omega (arith, and_le_r (c.args.state * 0x1008020100804) 0x1030101010100)

pub returns : goal.returns
returns c =
    everywhere (λ s. octets_up 8 (bit_and (s * 0x1008020100804) 0x1030101010100 + s / 128)) state_fields 256 computed
    c.args.state c.ranges.state.fits
