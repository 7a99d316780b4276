-- Laws on the numbers of a report. Assumes nothing.
use mathlib.Core.Path.{◌≡◌, refl, sym, ap, ◌∙◌}
use mathlib.Core.Bool.{Bool, true, false, cond, ◌||◌}
use Prim.Native.Nat.{ℕ, suc, ◌+◌, ◌-◌, ◌*◌, ◌/◌, ◌%◌, ◌<◌}
use native.Mathlib.Omega.{arith}
use borrow.Author.Tests.{ltb-true, ltb-false, leb-true, leb-false, lt-ltb, le-ltb}
use lib.Dec.{ltb, leb}
use lib.IntN.{pos, negsuc}
use lib.Signed.{mag}
use Rattle.field_signed.specs.Signed.{signed, complement, holds}

or_false : (b : Bool) → (b || false) ≡ b
or_false true = refl
or_false false = refl

-- ---- 24 bits in 32
pub extend_24 : (n : ℕ) → n < 16777216 → ((n + 8388608) % 16777216 + 4286578688) % 4294967296 ≡ complement 2147483648 (signed 8388608 n)
unfolding signed
extend_24 n l = go (ltb n 8388608) refl
  where
    go : (t : Bool) → ltb n 8388608 ≡ t
        → ((n + 8388608) % 16777216 + 4286578688) % 4294967296 ≡ complement 2147483648 (cond t (pos n) (negsuc (8388608 * 2 - suc n)))
    go true e = let h = ltb-true n 8388608 e in omega arith
    go false e = let h = ltb-false n 8388608 e in omega arith

pub held_24 : (n : ℕ) → n < 4294967296 → (ltb n 8388608 || leb 4286578688 n) ≡ holds 8388608 (signed 2147483648 n)
unfolding signed holds
held_24 n l = go (ltb n 2147483648) refl (leb 4286578688 n) refl
  where
    go : (t : Bool) → ltb n 2147483648 ≡ t → (u : Bool) → leb 4286578688 n ≡ u
        → (ltb n 8388608 || u) ≡ ltb (mag (cond t (pos n) (negsuc (2147483648 * 2 - suc n)))) 8388608
    go true e true f = let h = ltb-true n 2147483648 e in let k = leb-true 4286578688 n f in absurd (omega arith)
    go true e false f = or_false (ltb n 8388608)
    go false e true f =
        let h = ltb-false n 2147483648 e in
        let k = leb-true 4286578688 n f in
        rw (le-ltb n 8388608 (omega arith), lt-ltb (2147483648 * 2 - suc n) 8388608 (omega arith))
    go false e false f =
        let h = ltb-false n 2147483648 e in
        let k = leb-false 4286578688 n f in
        rw (le-ltb n 8388608 (omega arith), le-ltb (2147483648 * 2 - suc n) 8388608 (omega arith))

pub cut_24 : (n : ℕ) → n < 4294967296 → holds 8388608 (signed 2147483648 n) ≡ true → complement 8388608 (signed 2147483648 n) ≡ n % 16777216
unfolding signed holds
cut_24 n l = go (ltb n 2147483648) refl
  where
    go : (t : Bool) → ltb n 2147483648 ≡ t → ltb (mag (cond t (pos n) (negsuc (2147483648 * 2 - suc n)))) 8388608 ≡ true
        → complement 8388608 (cond t (pos n) (negsuc (2147483648 * 2 - suc n))) ≡ n % 16777216
    go true e h = let k = ltb-true n 8388608 h in omega arith
    go false e h = let j = ltb-false n 2147483648 e in let k = ltb-true (2147483648 * 2 - suc n) 8388608 h in omega arith

-- ---- 12 bits in 16
pub extend_12 : (n : ℕ) → n < 4096 → ((n + 2048) % 4096 + 63488) % 65536 ≡ complement 32768 (signed 2048 n)
unfolding signed
extend_12 n l = go (ltb n 2048) refl
  where
    go : (t : Bool) → ltb n 2048 ≡ t
        → ((n + 2048) % 4096 + 63488) % 65536 ≡ complement 32768 (cond t (pos n) (negsuc (2048 * 2 - suc n)))
    go true e = let h = ltb-true n 2048 e in omega arith
    go false e = let h = ltb-false n 2048 e in omega arith

pub held_12 : (n : ℕ) → n < 65536 → (ltb n 2048 || leb 63488 n) ≡ holds 2048 (signed 32768 n)
unfolding signed holds
held_12 n l = go (ltb n 32768) refl (leb 63488 n) refl
  where
    go : (t : Bool) → ltb n 32768 ≡ t → (u : Bool) → leb 63488 n ≡ u
        → (ltb n 2048 || u) ≡ ltb (mag (cond t (pos n) (negsuc (32768 * 2 - suc n)))) 2048
    go true e true f = let h = ltb-true n 32768 e in let k = leb-true 63488 n f in absurd (omega arith)
    go true e false f = or_false (ltb n 2048)
    go false e true f =
        let h = ltb-false n 32768 e in
        let k = leb-true 63488 n f in
        rw (le-ltb n 2048 (omega arith), lt-ltb (32768 * 2 - suc n) 2048 (omega arith))
    go false e false f =
        let h = ltb-false n 32768 e in
        let k = leb-false 63488 n f in
        rw (le-ltb n 2048 (omega arith), le-ltb (32768 * 2 - suc n) 2048 (omega arith))

pub cut_12 : (n : ℕ) → n < 65536 → holds 2048 (signed 32768 n) ≡ true → complement 2048 (signed 32768 n) ≡ n % 4096
unfolding signed holds
cut_12 n l = go (ltb n 32768) refl
  where
    go : (t : Bool) → ltb n 32768 ≡ t → ltb (mag (cond t (pos n) (negsuc (32768 * 2 - suc n)))) 2048 ≡ true
        → complement 2048 (cond t (pos n) (negsuc (32768 * 2 - suc n))) ≡ n % 4096
    go true e h = let k = ltb-true n 2048 h in omega arith
    go false e h = let j = ltb-false n 32768 e in let k = ltb-true (32768 * 2 - suc n) 2048 h in omega arith

-- ---- speed, vertical rate and track
speed_of : (s y : ℕ) → y < 65536 → (s * 65536 + y) / 1048576 ≡ s / 16
speed_of s y h =
    let r : s ≡ s / 16 * 16 + s % 16 = omega arith in
    let e : s * 65536 + y ≡ s / 16 * 1048576 + (s % 16 * 65536 + y) = omega arith in
    let l : s % 16 * 65536 + y < 1048576 = omega arith in
    by (s * 65536 + y) (s / 16) (s % 16 * 65536 + y) e l
  where
    by : (x q r : ℕ) → x ≡ q * 1048576 + r → r < 1048576 → x / 1048576 ≡ q
    by x q r e l = omega arith

pub read_speed : (a b c d : ℕ) → c < 256 → d < 256
    → (a * 256 + b) / 16 ≡ (a * 16777216 + (b * 65536 + (c * 256 + d))) / 1048576
read_speed a b c d lc ld =
    let e : a * 16777216 + (b * 65536 + (c * 256 + d)) ≡ (a * 256 + b) * 65536 + (c * 256 + d) = omega arith in
    sym (ap (λ (x : ℕ). x / 1048576) e ∙ speed_of (a * 256 + b) (c * 256 + d) (omega arith))

pub read_track : (a b c d : ℕ) → d < 256 → d ≡ (a * 16777216 + (b * 65536 + (c * 256 + d))) % 1048576 % 256
read_track a b c d ld = by (a * 65536 + (b * 256 + c)) (a * 16777216 + (b * 65536 + (c * 256 + d))) (omega arith)
  where
    by : (z x : ℕ) → x ≡ z * 256 + d → d ≡ x % 1048576 % 256
    by z x e = omega arith

pub record Moves (speed rate track : ℕ) : Type 0 where
  pub m0 : (speed * 1048576 + (rate * 256 + track)) / 16777216 ≡ (speed * 16 + rate / 256) / 256
  pub m1 : (speed * 1048576 + (rate * 256 + track)) % 16777216 / 65536 ≡ (speed * 16 + rate / 256) % 256
  pub m2 : (speed * 1048576 + (rate * 256 + track)) % 16777216 % 65536 / 256 ≡ rate % 256
  pub m3 : (speed * 1048576 + (rate * 256 + track)) % 16777216 % 65536 % 256 ≡ track

by_digits : (x p q r t : ℕ) → q < 256 → r < 256 → t < 256 → x ≡ p * 16777216 + (q * 65536 + (r * 256 + t))
    → (x / 16777216 ≡ p) × (x % 16777216 ≡ q * 65536 + (r * 256 + t))
by_digits x p q r t lq lr lt e =
    let a : x / 16777216 ≡ p = omega arith in
    let b : x % 16777216 ≡ q * 65536 + (r * 256 + t) = omega arith in
    (a, b)

then_16 : (y q r t : ℕ) → r < 256 → t < 256 → y ≡ q * 65536 + (r * 256 + t) → (y / 65536 ≡ q) × (y % 65536 ≡ r * 256 + t)
then_16 y q r t lr lt e =
    let a : y / 65536 ≡ q = omega arith in
    let b : y % 65536 ≡ r * 256 + t = omega arith in
    (a, b)

then_8 : (y r t : ℕ) → t < 256 → y ≡ r * 256 + t → (y / 256 ≡ r) × (y % 256 ≡ t)
then_8 y r t lt e =
    let a : y / 256 ≡ r = omega arith in
    let b : y % 256 ≡ t = omega arith in
    (a, b)

pub moves : (speed rate track : ℕ) → track < 256 → Moves speed rate track
moves speed rate track l =
    let m = speed * 16 + rate / 256 in
    let x = speed * 1048576 + (rate * 256 + track) in
    let h : rate ≡ rate / 256 * 256 + rate % 256 = omega arith in
    let k : speed * 16 + rate / 256 ≡ (speed * 16 + rate / 256) / 256 * 256 + (speed * 16 + rate / 256) % 256 = whole (speed * 16 + rate / 256) in
    let e : x ≡ m / 256 * 16777216 + (m % 256 * 65536 + (rate % 256 * 256 + track)) = spread speed (rate / 256) (rate % 256) track rate (m / 256) (m % 256) h k in
    let (d0, f0) = by_digits x (m / 256) (m % 256) (rate % 256) track (small m) (small rate) l e in
    let (d1, f1) = then_16 (x % 16777216) (m % 256) (rate % 256) track (small rate) l f0 in
    let (d2, d3) = then_8 (x % 16777216 % 65536) (rate % 256) track l f1 in
    record { m0 = d0; m1 = d1; m2 = d2; m3 = d3 }
  where
    whole : (n : ℕ) → n ≡ n / 256 * 256 + n % 256
    whole n = omega arith

    small : (n : ℕ) → n % 256 < 256
    small n = omega arith

    spread : (s q r t n p o : ℕ) → n ≡ q * 256 + r → s * 16 + q ≡ p * 256 + o
        → s * 1048576 + (n * 256 + t) ≡ p * 16777216 + (o * 65536 + (r * 256 + t))
    spread s q r t n p o e f = omega arith

-- ---- octets of numbers
pub octet_lt : (n : ℕ) → n < 16777216 → (n / 65536 < 256) × (n % 65536 / 256 < 256) × (n % 65536 % 256 < 256)
octet_lt n l =
    let a : n / 65536 < 256 = omega arith in
    let b : n % 65536 / 256 < 256 = omega arith in
    let c : n % 65536 % 256 < 256 = omega arith in
    (a, b, c)

pub two_lt : (n : ℕ) → n < 65536 → (n / 256 < 256) × (n % 256 < 256)
two_lt n l =
    let a : n / 256 < 256 = omega arith in
    let b : n % 256 < 256 = omega arith in
    (a, b)

pub halves_lt : {n a b : ℕ} → n ≡ a * 16 + b → a < 16 → b < 16 → n < 256
halves_lt e la lb = omega arith
