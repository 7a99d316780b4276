-- The two rules of a text: each octet passes; and by the library's words those behind the last that is no space. Assumes nothing.
use mathlib.Core.Path.{◌≡◌, refl, sym, ap, ap₂, ◌∙◌}
use mathlib.Core.Bool.{Bool, true, false, cond, ◌&&◌, ◌||◌}
use mathlib.Core.List.{List, [], ◌∷◌, ◌++◌, reverse}
use Prim.Native.Nat.{ℕ, suc, ◌+◌, ◌<◌, ◌≤◌}
use native.Mathlib.Omega.{arith}
use lib.ListN.{length, get_or, drop, drop_of_length-le}
use lib.Seq.{drop-cons}
use Rattle.std.specs.List.{list_all, prefix_len}
use Rattle.std.proofs.lemmas.List.{reverse-append}
use Rattle.std.proofs.lemmas.List.Folds.{list_all-append}
use Rattle.field_texts.specs.Text.{is_letter_or_digit, is_space, all_spaces, is_padded, is_spaced}

-- ---- each octet, from the first to the last
pub spaced_next : (xs : List ℕ) (i : ℕ) (so_far : Bool) {octet : Bool} → i < length xs → octet ≡ (is_letter_or_digit (get_or xs i 0) || is_space (get_or xs i 0))
    → (so_far && is_spaced (drop i xs)) ≡ is_spaced xs → (so_far && octet && is_spaced (drop (i + 1) xs)) ≡ is_spaced xs
unfolding is_spaced
spaced_next xs i so_far {octet} within o e =
    let next : suc i ≡ i + 1 = omega arith in
    let first : drop i xs ≡ get_or xs i 0 ∷ drop (i + 1) xs = drop-cons xs i 0 within ∙ ap (λ (n : ℕ). get_or xs i 0 ∷ drop n xs) next in
    joined so_far octet (is_spaced (drop (i + 1) xs))
    ∙ ap (λ (b : Bool). so_far && (b && is_spaced (drop (i + 1) xs))) o
    ∙ ap (λ (l : List ℕ). so_far && is_spaced l) (sym first)
    ∙ e
  where
    joined : (a b c : Bool) → ((a && b) && c) ≡ (a && (b && c))
    joined true b c = refl
    joined false b c = refl

pub spaced_end : (xs : List ℕ) (i : ℕ) (so_far : Bool) → length xs ≤ i → (so_far && is_spaced (drop i xs)) ≡ is_spaced xs → so_far ≡ is_spaced xs
unfolding is_spaced
spaced_end xs i so_far past e =
    sym (same so_far) ∙ ap (λ (l : List ℕ). so_far && is_spaced l) (sym (drop_of_length-le xs past)) ∙ e
  where
    same : (a : Bool) → (a && true) ≡ a
    same true = refl
    same false = refl

-- ---- what is behind spaces
trimmed : List ℕ → Bool
trimmed ys = list_all is_letter_or_digit (drop (prefix_len is_space ys) ys)

trimmed_cons : (y : ℕ) (ys : List ℕ) → trimmed (y ∷ ys) ≡ cond (is_space y) (trimmed ys) (list_all is_letter_or_digit (y ∷ ys))
unfolding trimmed
trimmed_cons y ys = go (is_space y)
  where
    go : (s : Bool) → list_all is_letter_or_digit (drop (cond s (1 + prefix_len is_space ys) 0) (y ∷ ys))
        ≡ cond s (list_all is_letter_or_digit (drop (prefix_len is_space ys) ys)) (list_all is_letter_or_digit (y ∷ ys))
    go true =
        let one : 1 + prefix_len is_space ys ≡ suc (prefix_len is_space ys) = omega arith in
        ap (λ (n : ℕ). list_all is_letter_or_digit (drop n (y ∷ ys))) one
    go false = refl

-- one more at the end
ends : (l s : Bool) → cond s true (l && true) ≡ (l && true || s && true)
ends true true = refl
ends true false = refl
ends false true = refl
ends false false = refl

swapped : (a l s : Bool) → (a && (l && true)) ≡ (l && a || s && false)
swapped true true true = refl
swapped true true false = refl
swapped true false true = refl
swapped true false false = refl
swapped false true true = refl
swapped false true false = refl
swapped false false true = refl
swapped false false false = refl

trimmed_more : (ys : List ℕ) (x : ℕ)
    → trimmed (ys ++ x ∷ []) ≡ (is_letter_or_digit x && trimmed ys || is_space x && list_all is_space ys)
unfolding trimmed
trimmed_more [] x = trimmed_cons x [] ∙ ends (is_letter_or_digit x) (is_space x)
trimmed_more (y ∷ ys) x =
    trimmed_cons y (ys ++ x ∷ [])
    ∙ go (is_space y) (trimmed_more ys x)
    ∙ ap (λ (b : Bool). is_letter_or_digit x && b || is_space x && list_all is_space (y ∷ ys)) (sym (trimmed_cons y ys))
  where
    go : (s : Bool) → trimmed (ys ++ x ∷ []) ≡ (is_letter_or_digit x && trimmed ys || is_space x && list_all is_space ys)
        → cond s (trimmed (ys ++ x ∷ [])) (list_all is_letter_or_digit (y ∷ ys ++ x ∷ []))
        ≡ (is_letter_or_digit x && cond s (trimmed ys) (list_all is_letter_or_digit (y ∷ ys)) || is_space x && (s && list_all is_space ys))
    go true e = e
    go false e =
        list_all-append is_letter_or_digit (y ∷ ys) (x ∷ [])
        ∙ swapped (list_all is_letter_or_digit (y ∷ ys)) (is_letter_or_digit x) (is_space x)

turned : (x : ℕ) (xs : List ℕ) → reverse (x ∷ xs) ≡ reverse xs ++ x ∷ []
turned x xs = reverse-append (x ∷ []) xs

spaces : (xs : List ℕ) → list_all is_space (reverse xs) ≡ all_spaces xs
unfolding all_spaces
spaces [] = refl
spaces (x ∷ xs) =
    ap (list_all is_space) (turned x xs) ∙ list_all-append is_space (reverse xs) (x ∷ []) ∙ swap (list_all is_space (reverse xs)) (is_space x)
    ∙ ap (λ (b : Bool). is_space x && b) (spaces xs)
  where
    swap : (a s : Bool) → (a && (s && true)) ≡ (s && a)
    swap true true = refl
    swap true false = refl
    swap false true = refl
    swap false false = refl

pub padded : (xs : List ℕ) → list_all is_letter_or_digit (drop (prefix_len is_space (reverse xs)) (reverse xs)) ≡ is_padded xs
unfolding is_padded trimmed
padded [] = refl
padded (x ∷ xs) =
    ap trimmed (turned x xs) ∙ trimmed_more (reverse xs) x
    ∙ ap₂ (λ (p s : Bool). is_letter_or_digit x && p || is_space x && s) (padded xs) (spaces xs)
