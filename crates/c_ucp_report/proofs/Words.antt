-- Eight octets as one number, and a number as eight octets. Assumes nothing.
use mathlib.Core.Path.{◌≡◌, ap, ◌∙◌}
use mathlib.Core.List.{List, [], ◌∷◌}
use Prim.Native.Nat.{ℕ, ◌+◌, ◌*◌, ◌/◌, ◌%◌, ◌<◌, ◌≤◌}
use native.Mathlib.Omega.{arith}
use lib.ListN.{length, get_or, take, drop}
use Rattle.field_words.specs.Words.{octets_up, octets_down, eight}
use Rattle.field_words.proofs.Digits.{up_eight, eight_from}

-- the other way round
pub from_down : (w : ℕ) {a b c d e f g h : ℕ} → octets_down 8 w [] ≡ a ∷ b ∷ c ∷ d ∷ e ∷ f ∷ g ∷ h ∷ []
    → octets_up 8 w ≡ h ∷ g ∷ f ∷ e ∷ d ∷ c ∷ b ∷ a ∷ []
unfolding octets_down octets_up
from_down w is = λ i. get_or (is i) 7 0
    ∷ get_or (is i) 6 0
    ∷ get_or (is i) 5 0
    ∷ get_or (is i) 4 0
    ∷ get_or (is i) 3 0
    ∷ get_or (is i) 2 0
    ∷ get_or (is i) 1 0
    ∷ get_or (is i) 0 0
    ∷ []

-- a number that is turned round, by the digits that it had
pub turned_eight : (w t a b c d e f g h : ℕ) → a < 256 → b < 256 → c < 256 → d < 256 → e < 256 → f < 256 → g < 256 → h < 256
    → w ≡ eight a b c d e f g h → octets_down 8 t [] ≡ octets_up 8 w → octets_up 8 t ≡ h ∷ g ∷ f ∷ e ∷ d ∷ c ∷ b ∷ a ∷ []
turned_eight w t a b c d e f g h la lb lc ld le lf lg lh is turned =
    from_down t (turned ∙ up_eight w a b c d e f g h la lb lc ld le lf lg lh is)

-- ---- a number by its octets
step : (n : ℕ) → n ≡ n % 256 + n / 256 * 256
step n = omega arith

fewer : (n k : ℕ) → n < k * 256 → n / 256 < k
fewer n k h = omega arith

-- one division behind the other
join : (w n1 n2 n3 n4 n5 n6 n7 a b c d e f g : ℕ) → w ≡ a + n1 * 256 → n1 ≡ b + n2 * 256 → n2 ≡ c + n3 * 256 → n3 ≡ d + n4 * 256
    → n4 ≡ e + n5 * 256 → n5 ≡ f + n6 * 256 → n6 ≡ g + n7 * 256 → w ≡ eight a b c d e f g n7
join w n1 n2 n3 n4 n5 n6 n7 a b c d e f g s0 s1 s2 s3 s4 s5 s6 = omega arith

last : (n : ℕ) → n < 256 → n ≡ n % 256
last n h = omega arith

by_digits : (w : ℕ) → w < 18446744073709551616
    → w
    ≡ eight (w % 256) (w / 256 % 256) (w / 256 / 256 % 256) (w / 256 / 256 / 256 % 256) (w / 256 / 256 / 256 / 256 % 256)
    (w / 256 / 256 / 256 / 256 / 256 % 256) (w / 256 / 256 / 256 / 256 / 256 / 256 % 256) (w / 256 / 256 / 256 / 256 / 256 / 256 / 256 % 256)
by_digits w h =
    let n1 = w / 256 in
    let n2 = n1 / 256 in
    let n3 = n2 / 256 in
    let n4 = n3 / 256 in
    let n5 = n4 / 256 in
    let n6 = n5 / 256 in
    let n7 = n6 / 256 in
    let h1 = fewer w 72057594037927936 h in
    let h2 = fewer n1 281474976710656 h1 in
    let h3 = fewer n2 1099511627776 h2 in
    let h4 = fewer n3 4294967296 h3 in
    let h5 = fewer n4 16777216 h4 in
    let h6 = fewer n5 65536 h5 in
    let h7 = fewer n6 256 h6 in
    join w n1 n2 n3 n4 n5 n6 n7 _ _ _ _ _ _ _ (step w) (step n1) (step n2) (step n3) (step n4) (step n5) (step n6)
    ∙ ap (eight (w % 256) (n1 % 256) (n2 % 256) (n3 % 256) (n4 % 256) (n5 % 256) (n6 % 256)) (last n7 h7)

-- the number that eight octets make, the first most significant
pub number_from : (xs : List ℕ) (at w : ℕ) → at + 8 ≤ length xs → w < 18446744073709551616 → octets_down 8 w [] ≡ take 8 (drop at xs)
    → w
    ≡ eight (get_or xs (at + 7) 0) (get_or xs (at + 6) 0) (get_or xs (at + 5) 0) (get_or xs (at + 4) 0) (get_or xs (at + 3) 0) (get_or xs (at + 2) 0)
    (get_or xs (at + 1) 0) (get_or xs at 0)
unfolding octets_up
number_from xs at w room small is =
    let up = from_down w (is ∙ eight_from xs at room) in
    by_digits w small
    ∙ (λ i. eight (get_or (up i) 0 0) (get_or (up i) 1 0) (get_or (up i) 2 0) (get_or (up i) 3 0) (get_or (up i) 4 0) (get_or (up i) 5 0) (get_or (up i) 6 0) (get_or (up i) 7 0))
