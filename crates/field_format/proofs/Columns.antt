-- A row's numbers and its values are one to one. Assumes nothing.
use mathlib.Core.Path.{◌≡◌, refl, sym, ap, ap₂, ◌∙◌, subst}
use mathlib.Core.Bool.{Bool, true, false}
use mathlib.Core.List.{List, [], ◌∷◌, ◌++◌}
use Prim.Native.Nat.{ℕ, zero, suc, ◌+◌, ◌*◌, ◌^◌, ◌<◌}
use native.Mathlib.Nat.{add_assoc}
use native.Mathlib.Omega.{arith}
use borrow.Author.Tests.{ltb-true, lt-ltb}
use lib.ListN.{get_or, drop}
use lib.Pow.{pow_pos}
use lib.Seq.{get_or-drop}
use Rattle.field_layout.specs.Layout.{Within, bit_of, is_set}
use Rattle.field_signed.specs.Signed.{complement, holds}
use Rattle.field_signed.proofs.Signed.{signed_complement, complement_signed, complement_lt, holds_signed}
use Rattle.field_format.proofs.Conjunction.{both}
use Rattle.field_format.specs.Format.{Sort, unsigned, part, integer, integer_part, Column, field, flag, letters, half, Number, number_to, number_of, Of, count, to, from, Typed, tested, Bounded, Sound, ◌&◌, Row, row_widths, row_to, row_from, RowTyped, row_tested, RowBounded, BoundedAt, RowSound}

-- ---- a bit, and a signed number
bit_lt : (b : Bool) → bit_of b < 2
bit_lt true = omega arith
bit_lt false = omega arith

bit_back : (b : Bool) → is_set (bit_of b) ≡ b
bit_back true = refl
bit_back false = refl

bits_back : (n : ℕ) → n < 2 → bit_of (is_set n) ≡ n
bits_back zero h = refl
bits_back (suc zero) h = refl
bits_back (suc (suc n)) h = absurd (omega arith)

halves : (w : ℕ) → 0 < w → half w * 2 ≡ 2 ^ w
halves zero h = absurd (omega arith)
halves (suc w) h = omega arith

some : (w : ℕ) → 0 < w → 0 < half w
some w h = let e = halves w h in let p : 0 < 2 ^ w = pow_pos w in omega arith

-- ---- a field: what its type says and what a writer tests
abbrev Held : (c : Column) → Of c → Type 0
Held (field unsigned w) n = n < 2 ^ w
Held (field part w) n = n < 2 ^ w
Held (field integer w) z = holds (half w) z ≡ true
Held (field integer_part w) z = holds (half w) z ≡ true
Held flag b = Unit {0}
Held letters t = Typed letters t

abbrev RowHeld : (cs : List Column) → Row cs → Type 0
RowHeld [] r = Unit {0}
RowHeld (c ∷ cs) r = Held c r.first × RowHeld cs r.rest

before_tested : (b : Bool) (c : Column) (v : Of c) → tested b c v ≡ true → b ≡ true
before_tested b (field unsigned w) v h = h
before_tested b (field part w) v h = (both b _ h).0
before_tested b (field integer w) v h = h
before_tested b (field integer_part w) v h = (both b _ h).0
before_tested b flag v h = h
before_tested b letters v h = h

held : (b : Bool) (c : Column) (v : Of c) → Typed c v → tested b c v ≡ true → Held c v
held b (field unsigned w) v t h = t
held b (field part w) v t h = ltb-true v (2 ^ w) (both b _ h).1
held b (field integer w) v t h = t
held b (field integer_part w) v t h = (both b _ h).1
held b flag v t h = tt
held b letters v t h = t

bounded : (b : Bool) (c : Column) (v : Of c) → Sound c → tested b c v ≡ true → Bounded c v
bounded b (field unsigned w) v s h = tt
bounded b (field part w) v s h = ltb-true v (2 ^ w) (both b _ h).1
bounded b (field integer w) v s h = tt
bounded b (field integer_part w) v s h = subst (λ (n : ℕ). complement (half w) v < n) (halves w s) (complement_lt (half w) v (both b _ h).1)
bounded b flag v s h = tt
bounded b letters v s h = tt

-- ---- a row
all_before : (b : Bool) (cs : List Column) (r : Row cs) → row_tested b cs r ≡ true → b ≡ true
all_before b [] r h = h
all_before b (c ∷ cs) r h = before_tested b c r.first (all_before (tested b c r.first) cs r.rest h)

-- the test shows that the values before it were right
pub row_before : (b : Bool) (cs : List Column) (r : Row cs) → row_tested b cs r ≡ true → b ≡ true
row_before = all_before

row_held : (b : Bool) (cs : List Column) (r : Row cs) → RowTyped cs r → row_tested b cs r ≡ true → RowHeld cs r
row_held b [] r t h = tt
row_held b (c ∷ cs) r t h = (
  held b c r.first t.0 (all_before (tested b c r.first) cs r.rest h),
  row_held (tested b c r.first) cs r.rest t.1 h,
)

pub row_bounded : (b : Bool) (cs : List Column) (r : Row cs) → RowSound cs → row_tested b cs r ≡ true → RowBounded cs r
row_bounded b [] r s h = tt
row_bounded b (c ∷ cs) r s h = (
  bounded b c r.first s.0 (all_before (tested b c r.first) cs r.rest h),
  row_bounded (tested b c r.first) cs r.rest s.1 h,
)

pub bounded_at : (cs : List Column) (r : Row cs) → RowBounded cs r → (k : ℕ) → BoundedAt cs r k
bounded_at [] r h k = tt
bounded_at (c ∷ cs) r h zero = h.0
bounded_at (c ∷ cs) r h (suc k) = bounded_at cs r.rest h.1 k

-- ---- the numbers of values are within their widths
number_lt : (w : ℕ) (s : Sort) (v : Number s) → Sound (field s w) → Held (field s w) v → number_to s w v < 2 ^ w
number_lt w unsigned v s h = h
number_lt w part v s h = h
number_lt w integer v s h = subst (λ (n : ℕ). complement (half w) v < n) (halves w s) (complement_lt (half w) v h)
number_lt w integer_part v s h = subst (λ (n : ℕ). complement (half w) v < n) (halves w s) (complement_lt (half w) v h)

held_within : (cs : List Column) (r : Row cs) → RowSound cs → RowHeld cs r → Within (row_widths cs) (row_to cs r)
held_within [] r s h = tt
held_within (field k w ∷ cs) r s h = (number_lt w k r.first s.0 h.0, held_within cs r.rest s.1 h.1)
held_within (flag ∷ cs) r s h = (bit_lt r.first, held_within cs r.rest s.1 h.1)
held_within (letters ∷ cs) r s h =
    let t = h.0 in
    (t.0, (t.1, (t.2, (t.3, (t.4, (t.5, (t.6, (t.7, held_within cs r.rest s.1 h.1))))))))

-- ---- a place further on is the first place of what is left
from_drop : (c : Column) (k j : ℕ) (vs : List ℕ) → from c (k + j) vs ≡ from c j (drop k vs)
from_drop (field s w) k j vs = ap (number_of s w) (sym (get_or-drop k vs j 0))
from_drop flag k j vs = ap is_set (sym (get_or-drop k vs j 0))
from_drop letters k j vs = λ i. record {
  c0 = sym (get_or-drop k vs j 0) i;
  c1 = at 1 i;
  c2 = at 2 i;
  c3 = at 3 i;
  c4 = at 4 i;
  c5 = at 5 i;
  c6 = at 6 i;
  c7 = at 7 i;
}
  where
    at : (n : ℕ) → get_or vs (k + j + n) 0 ≡ get_or (drop k vs) (j + n) 0
    at n = ap (λ (m : ℕ). get_or vs m 0) (add_assoc k j n) ∙ sym (get_or-drop k vs (j + n) 0)

row_drop : (cs : List Column) (k j : ℕ) (vs : List ℕ) → row_from cs (k + j) vs ≡ row_from cs j (drop k vs)
row_drop [] k j vs = refl
row_drop (c ∷ cs) k j vs =
    ap₂ (λ (a : Of c) (b : Row cs). a & b) (from_drop c k j vs)
    (ap (λ (n : ℕ). row_from cs n vs) (add_assoc k j (count c)) ∙ row_drop cs k (j + count c) vs)

row_after : (cs : List Column) (k : ℕ) (vs : List ℕ) → row_from cs k vs ≡ row_from cs 0 (drop k vs)
row_after cs k vs = let e : k ≡ k + 0 = omega arith in ap (λ (n : ℕ). row_from cs n vs) e ∙ row_drop cs k 0 vs

-- ---- the values of the numbers of values
number_back : (w : ℕ) (s : Sort) (v : Number s) → Held (field s w) v → number_of s w (number_to s w v) ≡ v
number_back w unsigned v h = refl
number_back w part v h = refl
number_back w integer v h = signed_complement (half w) v h
number_back w integer_part v h = signed_complement (half w) v h

held_back : (cs : List Column) (r : Row cs) → RowHeld cs r → row_from cs 0 (row_to cs r) ≡ r
held_back [] r h = refl
held_back (field s w ∷ cs) r h =
    ap₂ (λ (a : Number s) (b : Row cs). a & b) (number_back w s r.first h.0)
    (row_after cs 1 (to (field s w) r.first ++ row_to cs r.rest) ∙ held_back cs r.rest h.1)
held_back (flag ∷ cs) r h =
    ap₂ (λ (a : Bool) (b : Row cs). a & b) (bit_back r.first)
    (row_after cs 1 (to flag r.first ++ row_to cs r.rest) ∙ held_back cs r.rest h.1)
held_back (letters ∷ cs) r h =
    ap (λ (b : Row cs). r.first & b)
    (row_after cs 8 (to letters r.first ++ row_to cs r.rest) ∙ held_back cs r.rest h.1)

-- ---- values that are typed and tested
module _ (b : Bool) (cs : List Column) (r : Row cs) (s : RowSound cs) (t : RowTyped cs r) (h : row_tested b cs r ≡ true) where
  pub row_within : Within (row_widths cs) (row_to cs r)
  row_within = held_within cs r s (row_held b cs r t h)

  pub row_back : row_from cs 0 (row_to cs r) ≡ r
  row_back = held_back cs r (row_held b cs r t h)

-- ---- the values of numbers that are within their widths
number_again : (w : ℕ) (s : Sort) (n : ℕ) → Sound (field s w) → n < 2 ^ w → number_to s w (number_of s w n) ≡ n
number_again w unsigned n s h = refl
number_again w part n s h = refl
number_again w integer n s h = complement_signed (half w) n (subst (λ (m : ℕ). n < m) (sym (halves w s)) h)
number_again w integer_part n s h = complement_signed (half w) n (subst (λ (m : ℕ). n < m) (sym (halves w s)) h)

number_typed : (w : ℕ) (s : Sort) (n : ℕ) → Sound (field s w) → n < 2 ^ w → Typed (field s w) (number_of s w n)
number_typed w unsigned n s h = h
number_typed w part n s h = tt
number_typed w integer n s h = holds_signed (half w) n (some w s)
number_typed w integer_part n s h = tt

number_tested : (b : Bool) (w : ℕ) (s : Sort) (n : ℕ) → Sound (field s w) → n < 2 ^ w → tested b (field s w) (number_of s w n) ≡ b
number_tested b w unsigned n s h = refl
number_tested true w part n s h = lt-ltb n (2 ^ w) h
number_tested false w part n s h = refl
number_tested b w integer n s h = refl
number_tested true w integer_part n s h = holds_signed (half w) n (some w s)
number_tested false w integer_part n s h = refl

-- their numbers are the same, each is one that its type has, and the writer's test holds
pub record Again (cs : List Column) (vs : List ℕ) : Type 0 where
  pub same : row_to cs (row_from cs 0 vs) ≡ vs
  pub typed : RowTyped cs (row_from cs 0 vs)
  pub fit : (b : Bool) → row_tested b cs (row_from cs 0 vs) ≡ b

-- the first value, and the others from a row that is equal
module _ (c : Column) (cs : List Column) (us vs : List ℕ) (e : row_from cs (0 + count c) (us ++ vs) ≡ row_from cs 0 vs)
    (same : to c (from c 0 (us ++ vs)) ≡ us) (typed : Typed c (from c 0 (us ++ vs)))
    (fit : (b : Bool) → tested b c (from c 0 (us ++ vs)) ≡ b) (others : Again cs vs) where
  one_more : Again (c ∷ cs) (us ++ vs)
  one_more = record {
    same = ap₂ ◌++◌ same (ap (row_to cs) e ∙ others.same);
    typed = (typed, subst (RowTyped cs) (sym e) others.typed);
    fit = λ b. ap₂ (λ (d : Bool) (r : Row cs). row_tested d cs r) (fit b) e ∙ others.fit b;
  }

pub row_again : (cs : List Column) (vs : List ℕ) → RowSound cs → Within (row_widths cs) vs → Again cs vs
row_again [] [] s h = record { same = refl; typed = tt; fit = λ b. refl }
row_again [] (v ∷ vs) s h = absurd h
row_again (field k w ∷ cs) [] s h = absurd h
row_again (field k w ∷ cs) (v ∷ vs) s h =
    one_more (field k w) cs (v ∷ []) vs (row_after cs 1 (v ∷ vs)) (ap (λ (n : ℕ). n ∷ []) (number_again w k v s.0 h.0))
    (number_typed w k v s.0 h.0) (λ b. number_tested b w k v s.0 h.0) (row_again cs vs s.1 h.1)
row_again (flag ∷ cs) [] s h = absurd h
row_again (flag ∷ cs) (v ∷ vs) s h =
    one_more flag cs (v ∷ []) vs (row_after cs 1 (v ∷ vs)) (ap (λ (n : ℕ). n ∷ []) (bits_back v h.0)) tt (λ b. refl)
    (row_again cs vs s.1 h.1)
row_again (letters ∷ cs) [] s h = absurd h
row_again (letters ∷ cs) (a ∷ []) s h = absurd h.1
row_again (letters ∷ cs) (a ∷ (b ∷ [])) s h = absurd h.1.1
row_again (letters ∷ cs) (a ∷ (b ∷ (c ∷ []))) s h = absurd h.1.1.1
row_again (letters ∷ cs) (a ∷ (b ∷ (c ∷ (d ∷ [])))) s h = absurd h.1.1.1.1
row_again (letters ∷ cs) (a ∷ (b ∷ (c ∷ (d ∷ (e ∷ []))))) s h = absurd h.1.1.1.1.1
row_again (letters ∷ cs) (a ∷ (b ∷ (c ∷ (d ∷ (e ∷ (f ∷ [])))))) s h = absurd h.1.1.1.1.1.1
row_again (letters ∷ cs) (a ∷ (b ∷ (c ∷ (d ∷ (e ∷ (f ∷ (g ∷ []))))))) s h = absurd h.1.1.1.1.1.1.1
row_again (letters ∷ cs) (a ∷ (b ∷ (c ∷ (d ∷ (e ∷ (f ∷ (g ∷ (i ∷ vs)))))))) s h =
    one_more letters cs (a ∷ b ∷ c ∷ d ∷ e ∷ f ∷ g ∷ i ∷ []) vs (row_after cs 8 (a ∷ b ∷ c ∷ d ∷ e ∷ f ∷ g ∷ i ∷ vs)) refl
    (h.0, h.1.0, h.1.1.0, h.1.1.1.0, h.1.1.1.1.0, h.1.1.1.1.1.0, h.1.1.1.1.1.1.0, h.1.1.1.1.1.1.1.0)
    (λ b. refl) (row_again cs vs s.1 h.1.1.1.1.1.1.1.1)
