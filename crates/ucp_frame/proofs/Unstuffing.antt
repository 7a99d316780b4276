-- Laws of unstuffing: one octet more, stuffing undone, and what is read whole stuffed again. Assumes nothing.
use mathlib.Core.Path.{◌≡◌, refl, sym, ◌∙◌, ap}
use mathlib.Core.Bool.{Bool, true, false, cond}
use mathlib.Core.List.{List, [], ◌∷◌, ◌++◌}
use Prim.Native.Nat.{ℕ, zero, suc, ◌<◌}
use native.Mathlib.Omega.{arith}
use lib.Dec.{eqb}
use lib.ListN.{length}
use borrow.Author.Tests.{eqb-true, eqb-false, ne_eqb}
use Rattle.crc_polynomial.specs.Polynomial.{Octets}
use Rattle.ucp_frame.specs.Frame.{flag, escape, escaped, stuffed}
use Rattle.ucp_frame.specs.Stretch.{Ending, whole, escape_last, bad_escape, Unstuffed, nothing_but, also, unstuffed}
use Rattle.ucp_frame.proofs.Stuffing.{Escaped, a_flag, an_escape, itself, way, escaped_itself, FlagFree}

-- the ways that a reading goes
pub data Reading : List ℕ → Unstuffed → Type 0 where
  at_end : Reading [] (nothing_but whole)
  broken_off : Reading (escape ∷ []) (nothing_but escape_last)
  bad : {y : ℕ} {ys : List ℕ} → (y ≡ 0x5E → ⊥) → (y ≡ 0x5D → ⊥) → Reading (escape ∷ y ∷ ys) (nothing_but bad_escape)
  flag_read : {ys : List ℕ} {u : Unstuffed} → Reading ys u → Reading (escape ∷ 0x5E ∷ ys) (also flag u)
  escape_read : {ys : List ℕ} {u : Unstuffed} → Reading ys u → Reading (escape ∷ 0x5D ∷ ys) (also escape u)
  plain : {x : ℕ} {ys : List ℕ} {u : Unstuffed} → (x ≡ escape → ⊥) → Reading ys u → Reading (x ∷ ys) (also x u)

unstuffed_plain : (x : ℕ) (xs : List ℕ) → (x ≡ escape → ⊥) → unstuffed (x ∷ xs) ≡ also x (unstuffed xs)
unfolding unstuffed
unstuffed_plain x [] h = rw (ne_eqb x escape h)
unstuffed_plain x (y ∷ ys) h = rw (ne_eqb x escape h)

unstuffed_bad : (y : ℕ) (ys : List ℕ) → (y ≡ 0x5E → ⊥) → (y ≡ 0x5D → ⊥) → unstuffed (escape ∷ y ∷ ys) ≡ nothing_but bad_escape
unfolding unstuffed
unstuffed_bad y ys h k = rw (ne_eqb y 0x5E h, ne_eqb y 0x5D k)

pub reading : (raw : List ℕ) → Reading raw (unstuffed raw)
unfolding unstuffed
reading [] = at_end
reading (x ∷ []) = go (eqb x escape) refl
  where
    go : (t : Bool) → eqb x escape ≡ t → Reading (x ∷ []) (unstuffed (x ∷ []))
    go true e = rw (eqb-true x escape e) broken_off
    go false e = rw (unstuffed_plain x [] (eqb-false x escape e)) (plain (eqb-false x escape e) at_end)
reading (x ∷ y ∷ ys) = go (reading ys) (reading (y ∷ ys)) (eqb x escape) refl
  where
    third : Reading ys (unstuffed ys) → (y ≡ 0x5E → ⊥) → (t : Bool) → eqb y 0x5D ≡ t
        → Reading (escape ∷ y ∷ ys) (unstuffed (escape ∷ y ∷ ys))
    third r h true e = rw (eqb-true y 0x5D e) (escape_read r)
    third r h false e = rw (unstuffed_bad y ys h (eqb-false y 0x5D e)) (bad h (eqb-false y 0x5D e))

    second : Reading ys (unstuffed ys) → (t : Bool) → eqb y 0x5E ≡ t
        → Reading (escape ∷ y ∷ ys) (unstuffed (escape ∷ y ∷ ys))
    second r true e = rw (eqb-true y 0x5E e) (flag_read r)
    second r false e = third r (eqb-false y 0x5E e) (eqb y 0x5D) refl

    go : Reading ys (unstuffed ys) → Reading (y ∷ ys) (unstuffed (y ∷ ys)) → (t : Bool) → eqb x escape ≡ t
        → Reading (x ∷ y ∷ ys) (unstuffed (x ∷ y ∷ ys))
    go r q true e = rw (eqb-true x escape e) (second r (eqb y 0x5E) refl)
    go r q false e = rw (unstuffed_plain x (y ∷ ys) (eqb-false x escape e)) (plain (eqb-false x escape e) q)

-- ---- one octet more

abbrev pub onward : Ending → List ℕ → ℕ → Unstuffed
onward whole octets x =
    cond (eqb x escape)
    (record { octets = octets; ending = escape_last })
    (record { octets = octets ++ (x ∷ []); ending = whole })
onward escape_last octets x =
    cond (eqb x 0x5E) (record { octets = octets ++ (flag ∷ []); ending = whole })
    (cond (eqb x 0x5D) (record { octets = octets ++ (escape ∷ []); ending = whole })
    (record { octets = octets; ending = bad_escape }))
onward bad_escape octets x = record { octets = octets; ending = bad_escape }

also_cond : (y : ℕ) (t : Bool) (u v : Unstuffed) → also y (cond t u v) ≡ cond t (also y u) (also y v)
also_cond y true u v = refl
also_cond y false u v = refl

onward_also : (y x : ℕ) (e : Ending) (octets : List ℕ) → also y (onward e octets x) ≡ onward e (y ∷ octets) x
onward_also y x whole octets = also_cond y (eqb x escape) _ _
onward_also y x escape_last octets =
    also_cond y (eqb x 0x5E) _ _ ∙ ap (cond (eqb x 0x5E) _) (also_cond y (eqb x 0x5D) _ _)
onward_also y x bad_escape octets = refl

unstuffed_more : {raw : List ℕ} {u : Unstuffed} (x : ℕ) → Reading raw u
    → unstuffed (raw ++ (x ∷ [])) ≡ onward u.ending u.octets x
unfolding unstuffed
unstuffed_more x at_end = refl
unstuffed_more x broken_off = refl
unstuffed_more x (bad h k) = rw (ne_eqb _ 0x5E h, ne_eqb _ 0x5D k)
unstuffed_more x (flag_read {u = u} r) = ap (also flag) (unstuffed_more x r) ∙ onward_also flag x u.ending u.octets
unstuffed_more x (escape_read {u = u} r) = ap (also escape) (unstuffed_more x r) ∙ onward_also escape x u.ending u.octets
unstuffed_more x (plain {x = y} {ys = ys} {u = u} h r) =
    unstuffed_plain y (ys ++ (x ∷ [])) h ∙ ap (also y) (unstuffed_more x r) ∙ onward_also y x u.ending u.octets

pub unstuffed_snoc : (raw : List ℕ) (x : ℕ)
    → unstuffed (raw ++ (x ∷ [])) ≡ onward (unstuffed raw).ending (unstuffed raw).octets x
unstuffed_snoc raw x = unstuffed_more x (reading raw)

-- ---- there and back

pub unstuffed_stuffed : (xs : List ℕ) → unstuffed (stuffed xs) ≡ record { octets = xs; ending = whole }
unfolding unstuffed stuffed
unstuffed_stuffed [] = refl
unstuffed_stuffed (x ∷ xs) = go (escaped x) (way x) ∙ ap (also x) (unstuffed_stuffed xs)
  where
    go : (l : List ℕ) → Escaped x l → unstuffed (l ++ stuffed xs) ≡ also x (unstuffed (stuffed xs))
    go _ (a_flag e) = rw e
    go _ (an_escape e) = rw e
    go _ (itself h k) = unstuffed_plain x (stuffed xs) k

stuffed_more : {raw : List ℕ} {u : Unstuffed} → Reading raw u → FlagFree raw → u.ending ≡ whole → stuffed u.octets ≡ raw
unfolding stuffed escaped
stuffed_more at_end f e = refl
stuffed_more broken_off f e = cc
stuffed_more (bad h k) f e = cc
stuffed_more (flag_read r) f e = ap (λ (l : List ℕ). escape ∷ 0x5E ∷ l) (stuffed_more r (λ i. f (suc (suc i))) e)
stuffed_more (escape_read r) f e = ap (λ (l : List ℕ). escape ∷ 0x5D ∷ l) (stuffed_more r (λ i. f (suc (suc i))) e)
stuffed_more (plain {x = x} {u = u} h r) f e =
    ap (λ (l : List ℕ). l ++ stuffed u.octets) (escaped_itself x (f 0) h)
    ∙ ap (λ (l : List ℕ). x ∷ l) (stuffed_more r (λ i. f (suc i)) e)

-- two lists have two line images
pub stuffed_injective : (xs ys : List ℕ) → stuffed xs ≡ stuffed ys → xs ≡ ys
stuffed_injective xs ys e =
    ap (λ (u : Unstuffed). u.octets) (sym (unstuffed_stuffed xs) ∙ ap unstuffed e ∙ unstuffed_stuffed ys)

-- what is read whole stuffs back to what was read
pub stuffed_unstuffed : (raw : List ℕ) → FlagFree raw → (unstuffed raw).ending ≡ whole → stuffed (unstuffed raw).octets ≡ raw
stuffed_unstuffed raw = stuffed_more (reading raw)

-- ---- what is read

nothing_more : {raw : List ℕ} {u : Unstuffed} → Reading raw u → u.ending ≡ whole → length u.octets ≡ 0 → raw ≡ []
nothing_more at_end e z = refl
nothing_more broken_off e z = cc
nothing_more (bad h k) e z = cc
nothing_more (flag_read r) e z = absurd (omega arith)
nothing_more (escape_read r) e z = absurd (omega arith)
nothing_more (plain h r) e z = absurd (omega arith)

-- what reads whole as no octet holds none
pub unstuffed_nothing : (raw : List ℕ) → (unstuffed raw).ending ≡ whole → length (unstuffed raw).octets ≡ 0 → raw ≡ []
unstuffed_nothing raw = nothing_more (reading raw)

pub octets_cons : (x : ℕ) (xs : List ℕ) → x < 256 → Octets xs → Octets (x ∷ xs)
octets_cons x xs h k zero = h
octets_cons x xs h k (suc i) = k i

octets_more : {raw : List ℕ} {u : Unstuffed} → Reading raw u → Octets raw → Octets u.octets
octets_more at_end o = o
octets_more broken_off o = λ i. omega arith
octets_more (bad h k) o = λ i. omega arith
octets_more (flag_read {u = u} r) o = octets_cons flag u.octets (omega arith) (octets_more r (λ i. o (suc (suc i))))
octets_more (escape_read {u = u} r) o = octets_cons escape u.octets (omega arith) (octets_more r (λ i. o (suc (suc i))))
octets_more (plain {x = x} {u = u} h r) o = octets_cons x u.octets (o 0) (octets_more r (λ i. o (suc i)))

pub unstuffed_octets : (raw : List ℕ) → Octets raw → Octets (unstuffed raw).octets
unstuffed_octets raw = octets_more (reading raw)
