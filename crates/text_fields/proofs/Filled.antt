-- A template filled in, code by code. Assumes nothing.
use mathlib.Core.Path.{◌≡◌, refl, ap, ◌∙◌}
use mathlib.Core.Bool.{Bool, true, false, not, cond}
use mathlib.Core.List.{List, [], ◌∷◌, ◌++◌}
use Prim.Native.Nat.{ℕ, zero, suc, ◌<◌, ◌≤◌}
use native.Mathlib.Omega.{arith}
use lib.IntN.{ℤ, pos}
use lib.Dec.{ltb}
use lib.ListN.{length, get_or, drop, length-drop}
use Rattle.std.specs.Prelude.{Some, None}
use Rattle.std.specs.Option.{unwrap_or}
use Rattle.std.specs.List.{position}
use borrow.Author.Tests.{eq-eqb, ne_eqb, eqb-true, ltb-false}
use Rattle.std.proofs.lemmas.List.Sums.{prefix_len-le-length}
use Rattle.text_output.specs.Clips.{text_room, Clips}
use Rattle.text_output.proofs.Clipped.{clips_long, then}
use Rattle.text_output.proofs.Printed.{Left}
use Rattle.text_fields.specs.Fields.{quoted, shown}
use Rattle.text_fields.specs.Templates.{natural_value, short_value, long_value, is_code, label_length, label, from_code, filled}

-- octets of a code are passed over
skipped : (k : ℕ) (xs ns : List ℕ) (ss ls : List ℤ) (octets : List ℕ) → filled k xs ns ss ls octets ≡ filled 0 (drop k xs) ns ss ls octets
unfolding filled
skipped zero xs ns ss ls octets = refl
skipped (suc k) [] ns ss ls octets = refl
skipped (suc k) (x ∷ xs) ns ss ls octets = skipped k xs ns ss ls octets

module _ {rest : List ℕ} {x : ℕ} {xs : List ℕ} (e : rest ≡ x ∷ xs) (ns : List ℕ) (ss ls : List ℤ) (octets : List ℕ) where
  pub filled_natural : x ≡ 37 → filled 0 rest ns ss ls octets
      ≡ shown (natural_value (get_or xs 0 0) (get_or xs 1 0) (get_or xs 2 0) (get_or ns 0 0)) ++ filled 0 (drop 3 xs) (drop 1 ns) ss ls octets
  unfolding filled
  filled_natural h =
      rw (e, eq-eqb x 37 h, ne_eqb x 38 (λ g. omega arith), ne_eqb x 36 (λ g. omega arith))
      (ap (λ (ys : List ℕ). shown (natural_value (get_or xs 0 0) (get_or xs 1 0) (get_or xs 2 0) (get_or ns 0 0)) ++ ys)
      (skipped 3 xs (drop 1 ns) ss ls octets))

  pub filled_short : x ≡ 38 → filled 0 rest ns ss ls octets
      ≡ shown (short_value (get_or xs 0 0) (get_or xs 1 0) (get_or xs 2 0) (get_or ss 0 (pos 0))) ++ filled 0 (drop 3 xs) ns (drop 1 ss) ls octets
  unfolding filled
  filled_short h =
      rw (e, ne_eqb x 37 (λ g. omega arith), eq-eqb x 38 h, ne_eqb x 36 (λ g. omega arith))
      (ap (λ (ys : List ℕ). shown (short_value (get_or xs 0 0) (get_or xs 1 0) (get_or xs 2 0) (get_or ss 0 (pos 0))) ++ ys)
      (skipped 3 xs ns (drop 1 ss) ls octets))

  pub filled_long : x ≡ 36 → filled 0 rest ns ss ls octets
      ≡ shown (long_value (get_or xs 0 0) (get_or xs 1 0) (get_or xs 2 0) (get_or ls 0 (pos 0))) ++ filled 0 (drop 3 xs) ns ss (drop 1 ls) octets
  unfolding filled
  filled_long h =
      rw (e, ne_eqb x 37 (λ g. omega arith), ne_eqb x 38 (λ g. omega arith), eq-eqb x 36 h)
      (ap (λ (ys : List ℕ). shown (long_value (get_or xs 0 0) (get_or xs 1 0) (get_or xs 2 0) (get_or ls 0 (pos 0))) ++ ys)
      (skipped 3 xs ns ss (drop 1 ls) octets))

  pub filled_quoted : x ≡ 64 → filled 0 rest ns ss ls octets ≡ shown (quoted octets) ++ filled 0 xs ns ss ls octets
  unfolding filled
  filled_quoted h = rw (e, ne_eqb x 37 (λ g. omega arith), ne_eqb x 38 (λ g. omega arith), ne_eqb x 36 (λ g. omega arith), eq-eqb x 64 h) refl

  pub filled_label : (x ≡ 37 → ⊥) → (x ≡ 38 → ⊥) → (x ≡ 36 → ⊥) → (x ≡ 64 → ⊥)
      → filled 0 rest ns ss ls octets ≡ (x ∷ []) ++ filled 0 xs ns ss ls octets
  unfolding filled
  filled_label a b d f = rw (e, ne_eqb x 37 a, ne_eqb x 38 b, ne_eqb x 36 d, ne_eqb x 64 f) refl

pub filled_none : (rest : List ℕ) → length rest ≡ 0 → (ns : List ℕ) (ss ls : List ℤ) (octets : List ℕ) → filled 0 rest ns ss ls octets ≡ []
unfolding filled
filled_none [] h ns ss ls octets = refl
filled_none (x ∷ xs) h ns ss ls octets = absurd (omega (arith, h))

-- ---- a label, up to the next code

pub label_most : (xs : List ℕ) → label_length xs ≤ length xs
label_most xs = prefix_len-le-length (λ x. not (is_code x)) xs

-- the place that is found, or the end
pub code_found : (xs : List ℕ) → unwrap_or (position is_code xs) (length xs) ≡ label_length xs
code_found xs = go (ltb (label_length xs) (length xs)) refl
  where
    go : (b : Bool) → ltb (label_length xs) (length xs) ≡ b → unwrap_or (cond b (Some (label_length xs)) None) (length xs) ≡ label_length xs
    go true e = refl
    go false e = omega (arith, ltb-false (label_length xs) (length xs) e, label_most xs)

label_ended : (x : ℕ) (xs : List ℕ) → is_code x ≡ true → label_length (x ∷ xs) ≡ 0
label_ended x xs h = rw h refl

label_goes_on : (x : ℕ) (xs : List ℕ) → is_code x ≡ false → label_length (x ∷ xs) ≡ suc (label_length xs)
label_goes_on x xs h = rw h (omega arith)

-- what a label leaves begins with a code; where nothing is left, 37 stands for one
pub code_first : (xs : List ℕ) → is_code (get_or (from_code xs) 0 37) ≡ true
code_first [] = refl
code_first (x ∷ xs) = go (is_code x) refl (code_first xs)
  where
    go : (b : Bool) → is_code x ≡ b → is_code (get_or (from_code xs) 0 37) ≡ true → is_code (get_or (from_code (x ∷ xs)) 0 37) ≡ true
    go true h more = rw (label_ended x xs h) h
    go false h more = rw (label_goes_on x xs h) more

-- a code that is none of the others
pub last_code : {x : ℕ} → is_code x ≡ true → (x ≡ 37 → ⊥) → (x ≡ 38 → ⊥) → (x ≡ 36 → ⊥) → x ≡ 64
last_code {x} h a b d = eqb-true x 64 (rw (ne_eqb x 37 a, ne_eqb x 38 b, ne_eqb x 36 d) at h)

-- what stands behind a code
pub behind_less : (rest : List ℕ) {x : ℕ} {xs : List ℕ} → from_code rest ≡ x ∷ xs → length xs < length rest
behind_less rest e = let h = length-drop (label_length rest) rest in omega (arith, rw e at h)

no_code : (x y : ℕ) → is_code y ≡ true → is_code x ≡ false → x ≡ y → ⊥
no_code x y h g e = absurd (cc (h, g, e))

pub filled_from_code : (xs ns : List ℕ) (ss ls : List ℤ) (octets : List ℕ)
    → filled 0 xs ns ss ls octets ≡ label xs ++ filled 0 (from_code xs) ns ss ls octets
filled_from_code [] ns ss ls octets = refl
filled_from_code (x ∷ xs) ns ss ls octets = go (is_code x) refl (filled_from_code xs ns ss ls octets)
  where
    go : (b : Bool) → is_code x ≡ b → filled 0 xs ns ss ls octets ≡ label xs ++ filled 0 (from_code xs) ns ss ls octets
        → filled 0 (x ∷ xs) ns ss ls octets ≡ label (x ∷ xs) ++ filled 0 (from_code (x ∷ xs)) ns ss ls octets
    go true h more = rw (label_ended x xs h) refl
    go false h more =
        rw (label_goes_on x xs h)
        (filled_label refl ns ss ls octets (no_code x 37 refl h) (no_code x 38 refl h) (no_code x 36 refl h) (no_code x 64 refl h)
        ∙ ap (λ (ys : List ℕ). x ∷ ys) more)

-- a piece of what is left is put: what was there of the room, and what is left then
pub piece_put : {first : List ℕ} {start : ℕ} {whole text : List ℕ} {at : ℕ} {octets piece more : List ℕ}
    → length text ≡ text_room → Left first start whole text at octets → octets ≡ piece ++ more
    → {next : ℕ} {after : List ℕ} → Clips text at piece next after → (next ≤ text_room) × (length after ≡ text_room) × Left first start whole after next more
piece_put long left e p = (omega (arith, p.ends), clips_long p ∙ long, λ end last q. left end last (rw e (then p q)))

-- a label and the piece of the code behind it
pub code_put : (rest ns : List ℕ) (ss ls : List ℤ) (octets : List ℕ)
    → {first : List ℕ} {start : ℕ} {whole text between after : List ℕ} {at mid next : ℕ} {piece more : List ℕ}
    → length text ≡ text_room → Left first start whole text at (filled 0 rest ns ss ls octets) → Clips text at (label rest) mid between
    → filled 0 (from_code rest) ns ss ls octets ≡ piece ++ more → Clips between mid piece next after
    → (next ≤ text_room) × (length after ≡ text_room) × Left first start whole after next more
code_put rest ns ss ls octets long left p e q =
    let labelled = piece_put long left (filled_from_code rest ns ss ls octets) p in
    piece_put labelled.1 labelled.2 e q
