-- Signed numbers and their bits are one to one. Assumes nothing.
use mathlib.Core.Path.{◌≡◌, refl, ap, ◌∙◌}
use mathlib.Core.Bool.{Bool, true, false, cond}
use Prim.Native.Nat.{ℕ, suc, ◌-◌, ◌*◌, ◌≤◌, ◌<◌}
use native.Mathlib.Omega.{arith}
use borrow.Author.Tests.{ltb-true, ltb-false, lt-ltb, le-ltb}
use lib.Dec.{ltb}
use lib.IntN.{ℤ, pos, negsuc}
use lib.Signed.{mag}
use Rattle.field_signed.specs.Signed.{signed, complement, holds}

pub signed_under : (half n : ℕ) → n < half → signed half n ≡ pos n
unfolding signed
signed_under half n h = rw (lt-ltb n half h)

pub signed_over : (half n : ℕ) → half ≤ n → signed half n ≡ negsuc (half * 2 - suc n)
unfolding signed
signed_over half n h = rw (le-ltb n half h)

-- the bits mean a number of as many bits
pub magnitude_signed : (half n : ℕ) → 0 < half → mag (signed half n) < half
unfolding signed
magnitude_signed half n l = go (ltb n half) refl
  where
    go : (t : Bool) → ltb n half ≡ t → mag (cond t (pos n) (negsuc (half * 2 - suc n))) < half
    go true e = ltb-true n half e
    go false e = let h = ltb-false n half e in omega arith

pub holds_signed : (half n : ℕ) → 0 < half → holds half (signed half n) ≡ true
unfolding holds
holds_signed half n l = lt-ltb _ _ (magnitude_signed half n l)

pub complement_signed : (half n : ℕ) → n < half * 2 → complement half (signed half n) ≡ n
unfolding signed
complement_signed half n l = go (ltb n half) refl
  where
    go : (t : Bool) → ltb n half ≡ t → complement half (cond t (pos n) (negsuc (half * 2 - suc n))) ≡ n
    go true e = refl
    go false e = let h = ltb-false n half e in omega arith

pub signed_complement : (half : ℕ) (z : ℤ) → holds half z ≡ true → signed half (complement half z) ≡ z
unfolding holds
signed_complement half (pos n) h = signed_under half n (ltb-true n half h)
signed_complement half (negsuc n) h =
    let l = ltb-true n half h in
    let back : half * 2 - suc (half * 2 - suc n) ≡ n = omega arith in
    signed_over half (half * 2 - suc n) (omega arith) ∙ ap negsuc back

pub complement_lt : (half : ℕ) (z : ℤ) → holds half z ≡ true → complement half z < half * 2
unfolding holds
complement_lt half (pos n) h = let l = ltb-true n half h in omega arith
complement_lt half (negsuc n) h = let l = ltb-true n half h in omega arith
