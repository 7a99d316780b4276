-- `mavlink_messages::failure_bits::count_failures` meets its contract: antt computes the count of each status, once. Assumes nothing.
use mathlib.Core.Path.{◌≡◌, refl}
use Prim.Native.Nat.{ℕ, ◌<◌}
use lib.Bits.{bit_and}
use lib.Count.{ones}
use lib.ListN.{length}
use Rattle.crc_polynomial.proofs.Linear.{everywhere}
use Rattle.mavlink_messages.specs.FailureBits.{failure_bits}
use Rattle.mavlink_messages.proofs.failure_bits.count_failures.Goals as goal

right : (status : ℕ) → status < 256 → ones (bit_and status 0x1E) ≡ length (failure_bits status)
unfolding failure_bits ones
right = everywhere (λ status. ones (bit_and status 0x1E)) (λ status. length (failure_bits status)) 256 refl

pub returns : goal.returns
returns c = right c.args.status c.ranges.status.fits
