-- A number in decimal, by its last digit, and how long it is. Assumes nothing.
use mathlib.Core.Path.{◌≡◌, refl, sym, ap, ap₂, ◌∙◌}
use mathlib.Core.Bool.{Bool, true, false}
use mathlib.Core.List.{List, [], ◌∷◌, ◌++◌}
use Prim.Native.Nat.{ℕ, zero, suc, ◌+◌, ◌/◌, ◌%◌, ◌*◌, ◌^◌, ◌<◌, ◌≤◌}
use native.Mathlib.Nat.{pow-suc}
use native.Mathlib.Omega.{arith}
use lib.Dec.{ltb}
use lib.ListN.{length, set, length-append}
use lib.Seq.{sets}
use borrow.Author.Tests.{lt-ltb, le-ltb}
use Rattle.output_writing.specs.Puts.{Puts}
use Rattle.output_writing.proofs.ToPut.{ToPut, all_to_put}
use Rattle.text_output.specs.Text.{hex_digit, numeral}
use Rattle.text_output.proofs.Numerals as numerals
use Rattle.text_ucp_listing.specs.Listing.{decimal}

-- a decimal digit, as the code puts it
abbrev pub digit : ℕ → ℕ
digit d = 48 + d

decimal_digit : (d : ℕ) → d < 10 → hex_digit d ≡ digit d
unfolding hex_digit
decimal_digit d h = rw (lt-ltb d 10 h)

-- one digit more than hold it does not matter
enough : (k n : ℕ) → n < 10 ^ suc k → numeral false 10 (suc k) n ≡ numeral false 10 (suc (suc k)) n
unfolding numeral
enough zero n h = rw (lt-ltb n 10 h)
enough (suc k) n h = go (enough k (n / 10)) (ltb n 10) refl
  where
    go : (n / 10 < 10 ^ suc k → numeral false 10 (suc k) (n / 10) ≡ numeral false 10 (suc (suc k)) (n / 10)) → (b : Bool) → ltb n 10 ≡ b
        → numeral false 10 (suc (suc k)) n ≡ numeral false 10 (suc (suc (suc k))) n
    go fewer true e = rw e
    go fewer false e =
        let p : n < 10 ^ suc k * 10 = rw pow-suc at h in
        rw e (ap (λ (ds : List ℕ). ds ++ (hex_digit (n % 10) ∷ [])) (fewer (omega arith)))

pub one_digit : (n : ℕ) → n < 10 → decimal n ≡ digit n ∷ []
one_digit n h =
    numerals.one_digit false 10 20 n (λ none. omega arith) (lt-ltb n 10 h) ∙ ap (λ (d : ℕ). d ∷ []) (decimal_digit n h)

pub last_digit : (n : ℕ) → n < 2 ^ 64 → 10 ≤ n → decimal n ≡ decimal (n / 10) ++ (digit (n % 10) ∷ [])
last_digit n f h =
    numerals.more_digits false 10 20 n (λ none. omega arith) (le-ltb n 10 h)
    ∙ ap₂ (λ (ds : List ℕ) (d : ℕ). ds ++ (d ∷ [])) (enough 18 (n / 10) (omega arith)) (decimal_digit (n % 10) (omega arith))

-- a number below 10^k has at most k digits
digits_most : (k most n : ℕ) → n < 10 ^ suc k → length (numeral false 10 most n) ≤ suc k
unfolding numeral
digits_most k zero n h = omega arith
digits_most zero (suc most) n h = rw (lt-ltb n 10 h) (omega arith)
digits_most (suc k) (suc most) n h = go (digits_most k most (n / 10)) (ltb n 10) refl
  where
    go : (n / 10 < 10 ^ suc k → length (numeral false 10 most (n / 10)) ≤ suc k) → (b : Bool) → ltb n 10 ≡ b
        → length (numeral false 10 (suc most) n) ≤ suc (suc k)
    go fewer true e = rw e (omega arith)
    go fewer false e =
        let p : n < 10 ^ suc k * 10 = rw pow-suc at h in
        rw (e, length-append) (omega (arith, fewer (omega arith)))

pub decimal_length : (k n : ℕ) → n < 10 ^ suc k → length (decimal n) ≤ suc k
decimal_length k n h = digits_most k 20 n h

-- ---- a number put at a place of a text

module _ (text : List ℕ) (at n : ℕ) (fits : n < 2 ^ 64) (room : at + length (decimal n) ≤ length text) where
  pub digit_room : n < 10 → at < length text
  digit_room h = omega (arith, ap length (one_digit n h))

  pub digit_put : n < 10 → Puts text at (decimal n) (at + 1) (set text at (digit n))
  digit_put h = rw (one_digit n h) (record { ends = refl; leaves = refl })

  pub digits_left : 10 ≤ n
      → ToPut text at (decimal (n / 10) ++ (digit (n % 10) ∷ [])) (at + length (decimal n)) (sets text at (decimal n))
  digits_left h = all_to_put text at (sym (last_digit n fits h)) room
