-- Laws of octet stuffing: it goes octet by octet, at most doubles a list, and leaves no flag in it. Assumes nothing.
use mathlib.Core.Path.{◌≡◌, refl, sym, ◌∙◌, ap}
use mathlib.Core.Bool.{Bool, true, false, cond, ◌||◌, false≢true}
use mathlib.Core.List.{List, [], ◌∷◌, ◌++◌, append_assoc}
use Prim.Native.Nat.{ℕ, zero, suc, ◌*◌, ◌≤◌}
use native.Mathlib.Omega.{arith}
use lib.Bits.{bit_xor}
use lib.Dec.{eqb}
use lib.ListN.{length, get_or, drop, length-append}
use borrow.Author.Tests.{eqb-true, eqb-false, ne_eqb}
use Rattle.ucp_frame.specs.Frame.{flag, escape, escaped, stuffed}

-- the three ways of an octet
pub data Escaped (x : ℕ) : List ℕ → Type 0 where
  a_flag : x ≡ flag → Escaped x (escape ∷ 0x5E ∷ [])
  an_escape : x ≡ escape → Escaped x (escape ∷ 0x5D ∷ [])
  itself : (x ≡ flag → ⊥) → (x ≡ escape → ⊥) → Escaped x (x ∷ [])

pub way : (x : ℕ) → Escaped x (escaped x)
unfolding escaped
way x = by_flag (eqb x flag) refl
  where
    by_escape : (x ≡ flag → ⊥) → (t : Bool) → eqb x escape ≡ t → Escaped x (cond t (escape ∷ 0x5D ∷ []) (x ∷ []))
    by_escape h true e = an_escape (eqb-true x escape e)
    by_escape h false e = itself h (eqb-false x escape e)

    by_flag : (t : Bool) → eqb x flag ≡ t
        → Escaped x (cond t (escape ∷ 0x5E ∷ []) (cond (eqb x escape) (escape ∷ 0x5D ∷ []) (x ∷ [])))
    by_flag true e = a_flag (eqb-true x flag e)
    by_flag false e = by_escape (eqb-false x flag e) (eqb x escape) refl

-- an octet that is escaped becomes the escape, and then itself xor 20
pub escaped_two : (x : ℕ) → (eqb x flag || eqb x escape) ≡ true → escaped x ≡ escape ∷ bit_xor x 0x20 ∷ []
escaped_two x = go (escaped x) (way x)
  where
    go : (l : List ℕ) → Escaped x l → (eqb x flag || eqb x escape) ≡ true → l ≡ escape ∷ bit_xor x 0x20 ∷ []
    go _ (a_flag q) e = rw q
    go _ (an_escape q) e = rw q
    go _ (itself h k) e = absurd (false≢true (rw (ne_eqb x flag h, ne_eqb x escape k) at e))

pub escaped_one : (x : ℕ) → (eqb x flag || eqb x escape) ≡ false → escaped x ≡ x ∷ []
escaped_one x = go (escaped x) (way x)
  where
    go : (l : List ℕ) → Escaped x l → (eqb x flag || eqb x escape) ≡ false → l ≡ x ∷ []
    go _ (a_flag q) e = absurd (false≢true (sym (rw q at e)))
    go _ (an_escape q) e = absurd (false≢true (sym (rw q at e)))
    go _ (itself h k) e = refl

pub escaped_itself : (x : ℕ) → (x ≡ flag → ⊥) → (x ≡ escape → ⊥) → escaped x ≡ x ∷ []
escaped_itself x h k = escaped_one x (rw (ne_eqb x flag h, ne_eqb x escape k))

pub stuffed_append : (xs ys : List ℕ) → stuffed (xs ++ ys) ≡ stuffed xs ++ stuffed ys
unfolding stuffed
stuffed_append [] ys = refl
stuffed_append (x ∷ xs) ys =
    ap (λ (l : List ℕ). escaped x ++ l) (stuffed_append xs ys)
    ∙ sym (append_assoc (escaped x) (stuffed xs) (stuffed ys))

-- ---- lengths

pub record OneOrTwo (n : ℕ) : Type 0 where
  pub least : 1 ≤ n
  pub most : n ≤ 2

pub escaped_length : (x : ℕ) → OneOrTwo (length (escaped x))
escaped_length x = go (escaped x) (way x)
  where
    go : (l : List ℕ) → Escaped x l → OneOrTwo (length l)
    go _ (a_flag e) = omega arith
    go _ (an_escape e) = omega arith
    go _ (itself h k) = omega arith

pub stuffed_length_most : (xs : List ℕ) → length (stuffed xs) ≤ 2 * length xs
unfolding stuffed
stuffed_length_most [] = omega arith
stuffed_length_most (x ∷ xs) =
    simp length-append (omega (arith, escaped_length x, stuffed_length_most xs))

pub stuffed_length_least : (xs : List ℕ) → length xs ≤ length (stuffed xs)
unfolding stuffed
stuffed_length_least [] = omega arith
stuffed_length_least (x ∷ xs) =
    simp length-append (omega (arith, escaped_length x, stuffed_length_least xs))

-- octets that stuffing leaves as they are: the first is neither flag nor escape, and so on behind it
pub plain_first : (x : ℕ) (xs : List ℕ) → stuffed (x ∷ xs) ≡ x ∷ xs → (x ≡ flag → ⊥) × (x ≡ escape → ⊥) × (stuffed xs ≡ xs)
unfolding stuffed
plain_first x xs = go (escaped x) (way x)
  where
    go : (l : List ℕ) → Escaped x l → l ++ stuffed xs ≡ x ∷ xs → (x ≡ flag → ⊥) × (x ≡ escape → ⊥) × (stuffed xs ≡ xs)
    go _ (a_flag q) e = absurd (omega (arith, ap length e, stuffed_length_least xs))
    go _ (an_escape q) e = absurd (omega (arith, ap length e, stuffed_length_least xs))
    go _ (itself h k) e = (h, k, ap (drop 1) e)

-- ---- no flag

abbrev pub FlagFree : List ℕ → Type 0
FlagFree xs = (i : ℕ) → get_or xs i 0 ≡ flag → ⊥

pub flag_free_cons : (x : ℕ) (xs : List ℕ) → (x ≡ flag → ⊥) → FlagFree xs → FlagFree (x ∷ xs)
flag_free_cons x xs h k zero e = h e
flag_free_cons x xs h k (suc i) e = k i e

pub stuffed_flag_free : (xs : List ℕ) → FlagFree (stuffed xs)
unfolding stuffed
stuffed_flag_free [] = λ i e. omega arith
stuffed_flag_free (x ∷ xs) = go (escaped x) (way x) (stuffed_flag_free xs)
  where
    after_escape : (y : ℕ) → eqb y flag ≡ false → FlagFree (stuffed xs) → FlagFree (escape ∷ y ∷ stuffed xs)
    after_escape y e k =
        flag_free_cons escape (y ∷ stuffed xs) (eqb-false escape flag refl)
        (flag_free_cons y (stuffed xs) (eqb-false y flag e) k)

    go : (l : List ℕ) → Escaped x l → FlagFree (stuffed xs) → FlagFree (l ++ stuffed xs)
    go _ (a_flag e) k = after_escape 0x5E refl k
    go _ (an_escape e) k = after_escape 0x5D refl k
    go _ (itself h h') k = flag_free_cons x (stuffed xs) h k
