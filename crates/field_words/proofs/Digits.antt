-- The octets of a number, one division behind the other, and of a list from some place on. Assumes nothing.
use mathlib.Core.Path.{◌≡◌, refl, sym, ap, ap₂, ◌∙◌}
use mathlib.Core.List.{List, [], ◌∷◌, ◌++◌}
use Prim.Native.Nat.{ℕ, zero, suc, ◌+◌, ◌*◌, ◌/◌, ◌%◌, ◌^◌, ◌<◌, ◌≤◌}
use native.Mathlib.Omega.{arith}
use native.Mathlib.Nat.{mul_assoc, pow-suc}
use native.Mathlib.Numerals.{add-one}
use lib.Arith.{mod-mul}
use lib.ListN.{length, get_or, take, drop}
use lib.Seq.{drop-cons}
use Rattle.std.proofs.lemmas.List.{take_all}
use Rattle.field_words.specs.Words.{octets_up, octets_down, eight}

-- ---- digits to the base 256

-- the first least significant
abbrev value : List ℕ → ℕ
value [] = 0
value (x ∷ xs) = x + value xs * 256

abbrev Small : List ℕ → Type 0
Small [] = Unit {0}
Small (x ∷ xs) = (x < 256) × Small xs

-- digits turned round, before others
abbrev onto : List ℕ → List ℕ → List ℕ
onto [] ys = ys
onto (x ∷ xs) ys = onto xs (x ∷ ys)

first : (a n : ℕ) → a < 256 → (a + n * 256) % 256 ≡ a
first a n h = omega arith

others : (a n : ℕ) → a < 256 → (a + n * 256) / 256 ≡ n
others a n h = omega arith

up : (xs : List ℕ) → Small xs → octets_up (length xs) (value xs) ≡ xs
unfolding octets_up
up [] h = refl
up (x ∷ xs) h =
    ap₂ (λ (y n : ℕ). y ∷ octets_up (length xs) n) (first x (value xs) h.0) (others x (value xs) h.0)
    ∙ ap (λ (ys : List ℕ). x ∷ ys) (up xs h.1)

down : (xs ys : List ℕ) → Small xs → octets_down (length xs) (value xs) ys ≡ onto xs ys
unfolding octets_down
down [] ys h = refl
down (x ∷ xs) ys h =
    ap₂ (λ (y n : ℕ). octets_down (length xs) n (y ∷ ys)) (first x (value xs) h.0) (others x (value xs) h.0)
    ∙ down xs (x ∷ ys) h.1

-- the k lowest octets of a number
some : (k : ℕ) → 0 < 256 ^ k
some zero = omega arith
some (suc k) = let more = some k in omega arith

pub lows : (k w : ℕ) → octets_up k (w % 256 ^ k) ≡ octets_up k w
unfolding octets_up
lows zero w = refl
lows (suc k) w =
    let low = w / 256 % 256 ^ k in
    let halves : w % (256 ^ k * 256) ≡ low * 256 + w % 256 = mod-mul w (some k) (omega arith) in
    let digits : w % (256 ^ k * 256) ≡ w % 256 + low * 256 = omega (arith, halves) in
    ap (λ (m : ℕ). octets_up (suc k) (w % m)) (pow-suc 256 k)
    ∙ ap (octets_up (suc k)) digits
    ∙ ap₂ (λ (y n : ℕ). y ∷ octets_up k n) (first (w % 256) low (omega arith)) (others (w % 256) low (omega arith))
    ∙ ap (λ (ys : List ℕ). w % 256 ∷ ys) (lows k (w / 256))

pub lowest : (k n w : ℕ) → k ≤ n → octets_up k w ≡ take k (octets_up n w)
unfolding octets_up
lowest zero n w h = refl
lowest (suc k) zero w h = absurd (omega arith)
lowest (suc k) (suc n) w h = ap (λ (ys : List ℕ). w % 256 ∷ ys) (lowest k n (w / 256) (omega arith))

-- and one more above them
pub topped : (k w x : ℕ) → x < 256 → octets_up (suc k) (w % 256 ^ k + x * 256 ^ k) ≡ octets_up k w ++ x ∷ []
unfolding octets_up
topped zero w x h = let only : (w % 1 + x * 1) % 256 ≡ x = omega arith in ap (λ (n : ℕ). n ∷ []) only
topped (suc k) w x h =
    let low = w / 256 % 256 ^ k in
    let high = x * 256 ^ k in
    let halves : w % (256 ^ k * 256) ≡ low * 256 + w % 256 = mod-mul w (some k) (omega arith) in
    let above : x * (256 ^ k * 256) ≡ high * 256 = sym (mul_assoc x (256 ^ k) 256) in
    let digits : w % (256 ^ k * 256) + x * (256 ^ k * 256) ≡ w % 256 + (low + high) * 256 = omega (arith, halves, above) in
    ap (λ (m : ℕ). octets_up (suc (suc k)) (w % m + x * m)) (pow-suc 256 k)
    ∙ ap (octets_up (suc (suc k))) digits
    ∙ ap₂ (λ (y n : ℕ). y ∷ octets_up (suc k) n) (first (w % 256) (low + high) (omega arith)) (others (w % 256) (low + high) (omega arith))
    ∙ ap (λ (ys : List ℕ). w % 256 ∷ ys) (topped k (w / 256) x h)

-- a zero below them
pub below : (k n m : ℕ) → n ≡ m * 256 → octets_up (suc k) n ≡ 0 ∷ octets_up k m
unfolding octets_up
below k n m e =
    let low : n % 256 ≡ 0 = omega arith in
    let rest : n / 256 ≡ m = omega arith in
    ap₂ (λ (x n : ℕ). x ∷ octets_up k n) low rest

module _ (w a b c d e f g h : ℕ) (la : a < 256) (lb : b < 256) (lc : c < 256) (ld : d < 256) (le : e < 256) (lf : f < 256) (lg : g < 256)
    (lh : h < 256) (is : w ≡ eight a b c d e f g h) where
  digits : w ≡ value (a ∷ b ∷ c ∷ d ∷ e ∷ f ∷ g ∷ h ∷ [])
  digits = omega arith

  small : Small (a ∷ b ∷ c ∷ d ∷ e ∷ f ∷ g ∷ h ∷ [])
  small = (la, (lb, (lc, (ld, (le, (lf, (lg, (lh, tt))))))))

  pub up_eight : octets_up 8 w ≡ a ∷ b ∷ c ∷ d ∷ e ∷ f ∷ g ∷ h ∷ []
  up_eight = ap (octets_up 8) digits ∙ up (a ∷ b ∷ c ∷ d ∷ e ∷ f ∷ g ∷ h ∷ []) small

  pub down_eight : octets_down 8 w [] ≡ h ∷ g ∷ f ∷ e ∷ d ∷ c ∷ b ∷ a ∷ []
  down_eight = ap (λ (n : ℕ). octets_down 8 n []) digits ∙ down (a ∷ b ∷ c ∷ d ∷ e ∷ f ∷ g ∷ h ∷ []) [] small

-- ---- a list from some place on

-- the octet at a place, and then the others
one_more : (k : ℕ) (xs : List ℕ) (i j : ℕ) → i + 1 ≡ j → i < length xs → take (suc k) (drop i xs) ≡ get_or xs i 0 ∷ take k (drop j xs)
one_more k xs i j e h = ap (take (suc k)) (drop-cons xs i 0 h) ∙ ap (λ (n : ℕ). get_or xs i 0 ∷ take k (drop n xs)) (sym (add-one i) ∙ e)

-- so many elements, from so far behind a place on
abbrev pub elements : List ℕ → ℕ → ℕ → ℕ → List ℕ
elements xs i k zero = []
elements xs i k (suc n) = get_or xs (i + k) 0 ∷ elements xs i (suc k) n

pub from : (xs : List ℕ) (i n k : ℕ) → i + (k + n) ≤ length xs → take n (drop (i + k) xs) ≡ elements xs i k n
from xs i zero k h = refl
from xs i (suc n) k h =
    one_more n xs (i + k) (i + suc k) (omega arith) (omega arith)
    ∙ ap (λ (ys : List ℕ). get_or xs (i + k) 0 ∷ ys) (from xs i n (suc k) (omega arith))

pub eight_from : (xs : List ℕ) (i : ℕ) → i + 8 ≤ length xs → take 8 (drop i xs) ≡ get_or xs i 0 ∷ elements xs i 1 7
eight_from xs i fits =
    one_more 7 xs i (i + 1) refl (omega arith) ∙ ap (λ (ys : List ℕ). get_or xs i 0 ∷ ys) (from xs i 7 1 (omega arith))

-- all of a list that has so many
pub whole : (n : ℕ) (xs : List ℕ) → length xs ≡ n → elements xs 0 0 n ≡ xs
whole n xs e = sym (from xs 0 n 0 (omega arith)) ∙ take_all n xs (omega arith)
