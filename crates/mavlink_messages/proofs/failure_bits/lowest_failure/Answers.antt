-- `mavlink_messages::failure_bits::lowest_failure` meets its contract: antt computes the lowest bit of each status, once. Assumes nothing.
use Rattle.std.proofs.Common.{◌≡◌, ℕ, ◌<◌, cond, eqb, refl}
use borrow.Author.Tests.{eq-eqb, ne_eqb}
use lib.Bits.{bit_and}
use lib.Count.{count_trailing_zeros}
use Rattle.crc_polynomial.proofs.Linear.{everywhere}
use Rattle.mavlink_messages.specs.FailureBits.{failure_bits}
use Rattle.mavlink_messages.specs.Failures.{LowestAnswer, bit, none, lowest_of}
use Rattle.mavlink_messages.proofs.failure_bits.lowest_failure.Goals as goal

-- the lowest bit of a masked status
abbrev lowest : ℕ → LowestAnswer
lowest failed = cond (eqb failed 0) none (bit (count_trailing_zeros 8 failed))

right : (status : ℕ) → status < 256 → lowest (bit_and status 0x1E) ≡ lowest_of (failure_bits status)
unfolding failure_bits count_trailing_zeros
right = everywhere (λ status. lowest (bit_and status 0x1E)) (λ status. lowest_of (failure_bits status)) 256 refl

pub returns-then-failed-eq0 : goal.returns-then-failed-eq0
returns-then-failed-eq0 c = rw (eq-eqb _ _ c.if-failed-eq0.true) at (right c.args.status c.ranges.status.fits)

pub returns : goal.returns
returns c = rw (ne_eqb _ _ c.if-failed-eq0.false) at (right c.args.status c.ranges.status.fits)
