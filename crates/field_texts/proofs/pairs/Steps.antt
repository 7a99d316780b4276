-- A text is padded where each octet goes on to the next, and the last to a space. Assumes nothing.
use mathlib.Core.Path.{◌≡◌, refl, sym}
use mathlib.Core.Bool.{Bool, true, false, ◌&&◌, ◌||◌}
use mathlib.Core.List.{List, [], ◌∷◌}
use Prim.Native.Nat.{ℕ}
use native.Mathlib.Omega.{arith}
use borrow.Author.Tests.{eqb-true}
use Rattle.field_texts.specs.Text.{is_letter_or_digit, is_space, all_spaces, is_padded}
use Rattle.field_texts.specs.Pairs.{goes_on}

-- no octet is a letter and a space
apart : (c : ℕ) → (is_letter_or_digit c && is_space c) ≡ false
apart c = go (is_space c) refl
  where
    none : (b : Bool) → (b && false) ≡ false
    none true = refl
    none false = refl

    go : (t : Bool) → is_space c ≡ t → (is_letter_or_digit c && t) ≡ false
    go true e = rw (eqb-true c 0x20 e)
    go false e = none (is_letter_or_digit c)

by_cases : (l s l' s' q a : Bool) → (l && s) ≡ false → (l' && s') ≡ false
    → (l && (l' && q || s' && a) || s && (s' && a)) ≡ ((l || s && s') && (l' && q || s' && a))
by_cases true true l' s' q a h h' = let z : ◌≡◌ {A = ℕ} 0 1 = cc in absurd (omega arith)
by_cases true false l' s' q a h h' = same (l' && q || s' && a)
  where
    same : (b : Bool) → (b || false) ≡ b
    same true = refl
    same false = refl
by_cases false false l' s' q a h h' = refl
by_cases false true true true q a h h' = let z : ◌≡◌ {A = ℕ} 0 1 = cc in absurd (omega arith)
by_cases false true false true q a h h' = refl
by_cases false true l' false q a h h' = refl

pub step : (c d : ℕ) (cs : List ℕ) → (goes_on c d && is_padded (d ∷ cs)) ≡ is_padded (c ∷ d ∷ cs)
unfolding goes_on is_padded all_spaces
step c d cs =
    sym (by_cases (is_letter_or_digit c) (is_space c) (is_letter_or_digit d) (is_space d) (is_padded cs) (all_spaces cs) (apart c) (apart d))

pub last : (c : ℕ) → goes_on c 0x20 ≡ is_padded (c ∷ [])
unfolding goes_on is_padded all_spaces
last c = ends (is_letter_or_digit c) (is_space c)
  where
    ends : (l s : Bool) → (l || s && true) ≡ (l && true || s && true)
    ends true s = refl
    ends false s = refl

pub then : {a p : Bool} (c d : ℕ) (cs : List ℕ) → a ≡ goes_on c d → p ≡ is_padded (d ∷ cs) → (a && p) ≡ is_padded (c ∷ d ∷ cs)
then c d cs e h = rw (e, h) (step c d cs)
