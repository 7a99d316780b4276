-- `field_signed::signed_12` meets its contract: a number of 12 bits has no more than 16. Assumes nothing.
use native.Mathlib.Omega.{arith}
use Rattle.field_signed.proofs.Negative.{narrow_fits}
use Rattle.field_signed.proofs.signed_12.Goals as goal

pub narrowed-requires : goal.narrowed-requires
narrowed-requires c = narrow_fits 2048 c.args.bits (omega arith) (omega arith) c.to_signed.result c.to_signed.ensures
