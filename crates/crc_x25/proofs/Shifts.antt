-- The steps of the X.25 check by shifts, apart from what they are for: both are linear, and the step of sixteen places is that of
-- eight places twice, which antt computes at each power of x. A crate of its own, since that takes the longest. Assumes nothing.
use mathlib.Core.Path.{◌≡◌, refl, sym, ap, ap₂, ◌∙◌}
use Prim.Native.Nat.{ℕ, ◌+◌, ◌*◌, ◌/◌, ◌%◌, ◌^◌, ◌<◌}
use native.Mathlib.Omega.{arith}
use native.Mathlib.Nat.{mod-lt}
use lib.Bits.{bit_xor, xor_shr, xor_mod, xor_lt, xor_comm, xor_shifted}
use Rattle.crc_polynomial.specs.Polynomial.{degree16}
use Rattle.crc_polynomial.proofs.Xor.{xor_assoc}
use Rattle.crc_polynomial.proofs.Linear.{up_from, everywhere, Linear, both, times}
use Rattle.crc_polynomial.proofs.Wide.{behind, forced, forced_is, forced_at, same}

-- ---- the step by shifts
abbrev pub fold : ℕ → ℕ
fold low = bit_xor low (low * 16) % 256

unfoldable pub shifted : ℕ → ℕ
shifted met = bit_xor (bit_xor (bit_xor (met / 256) (fold (met % 256) * 256)) (fold (met % 256) * 8)) (fold (met % 256) / 16)

fold_linear : Linear fold
fold_linear a b =
    ap (λ (n : ℕ). n % 256) (both (λ n. n) (λ n. n * 16) (λ c d. refl) (times 4) a b)
    ∙ xor_mod (bit_xor a (a * 16)) (bit_xor b (b * 16)) 8

low_fold_linear : Linear (λ n. fold (n % 256))
low_fold_linear a b = ap fold (xor_mod a b 8) ∙ fold_linear (a % 256) (b % 256)

pub shifted_linear : Linear shifted
unfolding shifted
shifted_linear =
    both (λ n. bit_xor (bit_xor (n / 256) (fold (n % 256) * 256)) (fold (n % 256) * 8)) (λ n. fold (n % 256) / 16)
    (both (λ n. bit_xor (n / 256) (fold (n % 256) * 256)) (λ n. fold (n % 256) * 8)
    (both (λ n. n / 256) (λ n. fold (n % 256) * 256)
    (λ a b. xor_shr a b 8)
    (λ a b. ap (λ (n : ℕ). n * 256) (low_fold_linear a b) ∙ times 8 (fold (a % 256)) (fold (b % 256))))
    (λ a b. ap (λ (n : ℕ). n * 8) (low_fold_linear a b) ∙ times 3 (fold (a % 256)) (fold (b % 256))))
    (λ a b. ap (λ (n : ℕ). n / 16) (low_fold_linear a b) ∙ xor_shr (fold (a % 256)) (fold (b % 256)) 4)

-- ---- two octets at once
abbrev pub quotient : ℕ → ℕ
quotient met = bit_xor (bit_xor (bit_xor (bit_xor met (met * 16)) (met * 256)) (met * 2048)) (met * 4096) % 65536

abbrev pub spread : ℕ → ℕ
spread q = bit_xor (bit_xor q (q / 32)) (q / 4096)

unfoldable pub paired : ℕ → ℕ
paired met = spread (quotient met)

wide_quotient_linear : Linear (λ n. bit_xor (bit_xor (bit_xor (bit_xor n (n * 16)) (n * 256)) (n * 2048)) (n * 4096))
wide_quotient_linear =
    both (λ n. bit_xor (bit_xor (bit_xor n (n * 16)) (n * 256)) (n * 2048)) (λ n. n * 4096)
    (both (λ n. bit_xor (bit_xor n (n * 16)) (n * 256)) (λ n. n * 2048)
    (both (λ n. bit_xor n (n * 16)) (λ n. n * 256) (both (λ n. n) (λ n. n * 16) (λ c d. refl) (times 4)) (times 8))
    (times 11))
    (times 12)

quotient_linear : Linear quotient
quotient_linear a b =
    ap (λ (n : ℕ). n % 65536) (wide_quotient_linear a b)
    ∙ xor_mod (bit_xor (bit_xor (bit_xor (bit_xor a (a * 16)) (a * 256)) (a * 2048)) (a * 4096))
    (bit_xor (bit_xor (bit_xor (bit_xor b (b * 16)) (b * 256)) (b * 2048)) (b * 4096)) 16

spread_linear : Linear spread
spread_linear =
    both (λ q. bit_xor q (q / 32)) (λ q. q / 4096)
    (both (λ q. q) (λ q. q / 32) (λ a b. refl) (λ a b. xor_shr a b 5))
    (λ a b. xor_shr a b 12)

pub paired_linear : Linear paired
unfolding paired
paired_linear a b = ap spread (quotient_linear a b) ∙ spread_linear (quotient a) (quotient b)

-- ---- both as they are computed
shifted_quick : ℕ → ℕ
shifted_quick n = forced (λ n. forced (λ f. bit_xor (bit_xor (bit_xor (n / 256) (f * 256)) (f * 8)) (f / 16)) (fold (n % 256))) n

shifted_quick_is : (n : ℕ) → shifted_quick n ≡ shifted n
unfolding shifted_quick shifted
shifted_quick_is n =
    forced_is (λ n. forced (λ f. bit_xor (bit_xor (bit_xor (n / 256) (f * 256)) (f * 8)) (f / 16)) (fold (n % 256))) n
    ∙ forced_is (λ f. bit_xor (bit_xor (bit_xor (n / 256) (f * 256)) (f * 8)) (f / 16)) (fold (n % 256))

unfoldable pub paired_quick : ℕ → ℕ
paired_quick n = forced spread (forced quotient n)

pub paired_quick_is : (n : ℕ) → paired_quick n ≡ paired n
unfolding paired_quick paired
paired_quick_is n = forced_at spread (forced_is quotient n)

-- sixteen places are eight and eight more: computed at each power of x
twice_computed : up_from (λ i. paired_quick (2 ^ i)) 16 0 ≡ up_from (λ i. shifted_quick (shifted_quick (2 ^ i))) 16 0
unfolding paired_quick shifted_quick
twice_computed = refl

pub paired_twice : (n : ℕ) → n < degree16 → paired n ≡ shifted (shifted n)
paired_twice =
    same paired (λ n. shifted (shifted n)) paired_linear (behind shifted shifted shifted_linear shifted_linear) 16
    (λ i h.
    sym (paired_quick_is (2 ^ i))
    ∙ everywhere (λ i. paired_quick (2 ^ i)) (λ i. shifted_quick (shifted_quick (2 ^ i))) 16 twice_computed i h
    ∙ shifted_quick_is (shifted_quick (2 ^ i))
    ∙ ap shifted (shifted_quick_is (2 ^ i)))

-- the octet above meets the register eight places later
above_computed : up_from (λ i. paired_quick (2 ^ i * 256)) 8 0 ≡ up_from (λ i. shifted_quick (2 ^ i)) 8 0
unfolding paired_quick shifted_quick
above_computed = refl

pub paired_above : (y : ℕ) → y < 256 → paired (y * 256) ≡ shifted y
paired_above =
    same (λ y. paired (y * 256)) shifted (behind (λ y. y * 256) paired (times 8) paired_linear) shifted_linear 8
    (λ i h.
    sym (paired_quick_is (2 ^ i * 256))
    ∙ everywhere (λ i. paired_quick (2 ^ i * 256)) (λ i. shifted_quick (2 ^ i)) 8 above_computed i h
    ∙ shifted_quick_is (2 ^ i))

-- two octets at once, where sixteen places are eight and eight more
pub two_at_once : (wide narrow : ℕ → ℕ) → Linear wide → Linear narrow
    → ((n : ℕ) → n < degree16 → wide n ≡ narrow (narrow n)) → ((y : ℕ) → y < 256 → wide (y * 256) ≡ narrow y)
    → (check x y : ℕ) → check < degree16 → x < 256 → y < 256
    → wide (bit_xor check (y * 256 + x)) ≡ narrow (bit_xor (narrow (bit_xor check x)) y)
two_at_once wide narrow linear narrow-linear twice above check x y hc hx hy =
    linear check (y * 256 + x)
    ∙ ap (bit_xor (wide check)) (ap wide (sym (xor_shifted y 8 x hx) ∙ xor_comm (y * 256) x) ∙ linear x (y * 256))
    ∙ sym (xor_assoc (wide check) (wide x) (wide (y * 256)))
    ∙ ap₂ bit_xor
    (sym (linear check x) ∙ twice (bit_xor check x) (xor_lt 16 check x hc (omega arith)))
    (above y hy)
    ∙ sym (narrow-linear (narrow (bit_xor check x)) y)

-- what the step needs to fit
pub paired_lt : (n : ℕ) → paired n < degree16
unfolding paired
paired_lt n =
    let q : quotient n < 65536 = mod-lt _ (omega arith) in
    xor_lt 16 _ _ (xor_lt 16 (quotient n) (quotient n / 32) q (omega arith)) (omega arith)
