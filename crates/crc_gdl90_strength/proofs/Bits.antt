-- The bits by number are the bits in the order of the line. Assumes nothing.
use mathlib.Core.Path.{◌≡◌, refl, sym, ap, ap₂, ◌∙◌}
use mathlib.Core.Bool.{Bool, true, false, xor}
use mathlib.Core.List.{List, [], ◌∷◌, ◌++◌}
use Prim.Native.Nat.{ℕ, zero, suc, ◌+◌, ◌*◌, ◌-◌, ◌/◌, ◌%◌, ◌^◌, ◌<◌, ◌≤◌, zero-le}
use native.Mathlib.Omega.{arith}
use native.Mathlib.Nat.{zero-div}
use lib.Dec.{leb}
use lib.ListN.{length, get_or, length-append, get_or-append, get_or-eq_default}
use lib.Seq.{get_or-append-add}
use borrow.Author.Tests.{leb-true, leb-false}
use Rattle.crc_polynomial.specs.Polynomial.{odd, bits_of, bits_of_octets}
use Rattle.crc_polynomial.proofs.Laws.{sum}
use Rattle.crc_gdl90_strength.specs.BitNumbers.{bit_number}

pub length_bits_of : (w x : ℕ) → length (bits_of w x) ≡ w
unfolding bits_of
length_bits_of zero x = refl
length_bits_of (suc w) x = ap suc (length_bits_of w x)

pub length_bits : (body : List ℕ) → length (bits_of_octets body) ≡ 8 * length body
unfolding bits_of_octets
length_bits [] = refl
length_bits (x ∷ xs) =
    let e : length (bits_of_octets xs) ≡ 8 * length xs = length_bits xs in
    length-append (bits_of 8 x) (bits_of_octets xs) ∙ omega (arith, length_bits_of 8 x)

bits_of_at : (w x k : ℕ) → k < w → get_or (bits_of w x) k false ≡ odd (x / 2 ^ (w - (k + 1)))
unfolding bits_of
bits_of_at zero x k h = absurd (omega arith)
bits_of_at (suc w) x zero h = ap (λ (n : ℕ). odd (x / 2 ^ n)) (omega arith)
bits_of_at (suc w) x (suc k) h = bits_of_at w x k (omega arith) ∙ ap (λ (n : ℕ). odd (x / 2 ^ n)) (omega arith)

-- the bit at place k of an octet, and of the octets behind it
octet_at : (x : ℕ) (xs : List ℕ) (k : ℕ) → k < 8 → get_or (bits_of 8 x ++ bits_of_octets xs) k false ≡ bit_number (x ∷ xs) k
octet_at x xs k h =
    let place : 8 - (k + 1) ≡ 7 - k % 8 = omega arith in
    let octet : k / 8 ≡ 0 = omega arith in
    get_or-append (bits_of 8 x) (bits_of_octets xs) false k (rw (length_bits_of 8 x) h)
    ∙ bits_of_at 8 x k h
    ∙ ap₂ (λ (i n : ℕ). odd (get_or (x ∷ xs) i 0 / 2 ^ n)) (sym octet) place

behind_at : (x : ℕ) (xs : List ℕ) (j : ℕ) → get_or (bits_of_octets xs) j false ≡ bit_number xs j
    → get_or (bits_of 8 x ++ bits_of_octets xs) (8 + j) false ≡ bit_number (x ∷ xs) (8 + j)
behind_at x xs j e =
    let place : j % 8 ≡ (8 + j) % 8 = omega arith in
    let octet : suc (j / 8) ≡ (8 + j) / 8 = omega arith in
    ap (λ (n : ℕ). get_or (bits_of 8 x ++ bits_of_octets xs) (n + j) false) (sym (length_bits_of 8 x))
    ∙ get_or-append-add (bits_of 8 x) (bits_of_octets xs) j false
    ∙ e
    ∙ ap₂ (λ (i n : ℕ). odd (get_or (x ∷ xs) i 0 / 2 ^ (7 - n))) octet place

pub bits_at : (body : List ℕ) (k : ℕ) → get_or (bits_of_octets body) k false ≡ bit_number body k
unfolding bits_of_octets
bits_at [] k = sym (ap (λ (n : ℕ). odd (n / 2 ^ (7 - k % 8))) (get_or-eq_default [] 0 {n = k / 8} zero-le) ∙ ap odd (zero-div (2 ^ (7 - k % 8))))
bits_at (x ∷ xs) k = go (bits_at xs (k - 8)) (leb 8 k) refl
  where
    go : get_or (bits_of_octets xs) (k - 8) false ≡ bit_number xs (k - 8) → (t : Bool) → leb 8 k ≡ t
        → get_or (bits_of 8 x ++ bits_of_octets xs) k false ≡ bit_number (x ∷ xs) k
    go ih true e =
        let h : 8 ≤ k = leb-true 8 k e in
        let back : 8 + (k - 8) ≡ k = omega arith in
        rw back at (behind_at x xs (k - 8) ih)
    go ih false e = octet_at x xs k (leb-false 8 k e)

pub get_d_sum : (xs ys : List Bool) (k : ℕ) → length xs ≡ length ys
    → get_or (sum xs ys) k false ≡ xor (get_or xs k false) (get_or ys k false)
unfolding sum xor
get_d_sum [] [] k e = refl
get_d_sum [] (y ∷ ys) k e = absurd (omega arith)
get_d_sum (x ∷ xs) [] k e = absurd (omega arith)
get_d_sum (x ∷ xs) (y ∷ ys) zero e = refl
get_d_sum (x ∷ xs) (y ∷ ys) (suc k) e = get_d_sum xs ys k (omega arith)

pub length_sum : (xs ys : List Bool) → length xs ≡ length ys → length (sum xs ys) ≡ length xs
unfolding sum
length_sum [] [] e = refl
length_sum [] (y ∷ ys) e = refl
length_sum (x ∷ xs) [] e = absurd (omega arith)
length_sum (x ∷ xs) (y ∷ ys) e = ap suc (length_sum xs ys (omega arith))
