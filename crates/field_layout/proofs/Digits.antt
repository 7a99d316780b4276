-- Fields joined and cut again are the same, and a number cut and joined again is the same. Assumes nothing.
use mathlib.Core.Path.{◌≡◌, refl, ap, ap₂, ◌∙◌, subst}
use mathlib.Core.List.{List, [], ◌∷◌, reverse, reverse_aux}
use Prim.Native.Nat.{ℕ, zero, suc, ◌+◌, ◌*◌, ◌/◌, ◌%◌, ◌^◌, ◌<◌}
use native.Mathlib.Nat.{add-zero, mod-lt, div-add-mod', div-lt_iff_lt-mul}
use native.Mathlib.Omega.{arith}
use lib.Arith.{digits_lt, digits_div, digits_mod}
use lib.ListN.{length, replicate, length-reverse, length-replicate}
use lib.Pow.{pow-add, pow_pos}
use Rattle.crc_polynomial.specs.Polynomial.{Octets}
use Rattle.field_layout.specs.Layout.{total, joined, cut_by_widths, Within}

-- fields of these widths make a number of as many bits
pub joined_lt : (ws vs : List ℕ) → Within ws vs → joined ws vs < 2 ^ total ws
joined_lt [] [] h = omega arith
joined_lt (w ∷ []) (v ∷ vs) h = rw add-zero h.0
joined_lt (w ∷ (u ∷ us)) (v ∷ vs) h = rw (pow-add 2 w (total (u ∷ us))) (digits_lt h.0 (joined_lt (u ∷ us) vs h.1))
joined_lt [] (v ∷ vs) h = elim h [ ]
joined_lt (w ∷ []) [] h = elim h [ ]
joined_lt (w ∷ (u ∷ us)) [] h = elim h [ ]

pub cut_joined : (ws vs : List ℕ) → Within ws vs → cut_by_widths ws (joined ws vs) ≡ vs
cut_joined [] [] h = refl
cut_joined (w ∷ []) (v ∷ []) h = refl
cut_joined (w ∷ []) (v ∷ (u ∷ us)) h = absurd h.1
cut_joined (w ∷ (u ∷ us)) (v ∷ vs) h =
    let l = joined_lt (u ∷ us) vs h.1 in
    ap₂ (λ (a : ℕ) (b : ℕ). a ∷ cut_by_widths (u ∷ us) b) (digits_div v l) (digits_mod v l)
    ∙ ap (λ (r : List ℕ). v ∷ r) (cut_joined (u ∷ us) vs h.1)
cut_joined [] (v ∷ vs) h = elim h [ ]
cut_joined (w ∷ []) [] h = elim h [ ]
cut_joined (w ∷ (u ∷ us)) [] h = elim h [ ]

pub joined_cut : (ws : List ℕ) (n : ℕ) → n < 2 ^ total ws → joined ws (cut_by_widths ws n) ≡ n
joined_cut [] n h = omega arith
joined_cut (w ∷ []) n h = refl
joined_cut (w ∷ (u ∷ us)) n h =
    ap (λ (k : ℕ). n / 2 ^ total (u ∷ us) * 2 ^ total (u ∷ us) + k)
    (joined_cut (u ∷ us) (n % 2 ^ total (u ∷ us)) (mod-lt n (pow_pos (total (u ∷ us)))))
    ∙ div-add-mod' n (2 ^ total (u ∷ us))

pub cut_within : (ws : List ℕ) (n : ℕ) → n < 2 ^ total ws → Within ws (cut_by_widths ws n)
cut_within [] n h = tt
cut_within (w ∷ []) n h = (rw add-zero at h, tt)
cut_within (w ∷ (u ∷ us)) n h = (
  (div-lt_iff_lt-mul (pow_pos (total (u ∷ us)))).1 (rw (pow-add 2 w (total (u ∷ us))) at h),
  cut_within (u ∷ us) (n % 2 ^ total (u ∷ us)) (mod-lt n (pow_pos (total (u ∷ us)))),
)

pub length_within : (ws vs : List ℕ) → Within ws vs → length vs ≡ length ws
length_within [] [] h = refl
length_within (w ∷ ws) (v ∷ vs) h = ap suc (length_within ws vs h.1)
length_within [] (v ∷ vs) h = elim h [ ]
length_within (w ∷ ws) [] h = elim h [ ]

-- ---- octets are fields of 8 bits
abbrev AllOctets : List ℕ → Type 0
AllOctets [] = Unit {0}
AllOctets (x ∷ xs) = (x < 256) × AllOctets xs

all_octets : (xs : List ℕ) → Octets xs → AllOctets xs
all_octets [] h = tt
all_octets (x ∷ xs) h = (h 0, all_octets xs (λ i. h (suc i)))

all_within : (xs : List ℕ) → AllOctets xs → Within (replicate (length xs) 8) xs
all_within [] h = tt
all_within (x ∷ xs) h = (h.0, all_within xs h.1)

within_all : (n : ℕ) (xs : List ℕ) → Within (replicate n 8) xs → AllOctets xs
within_all zero [] h = tt
within_all (suc n) (x ∷ xs) h = (h.0, within_all n xs h.1)
within_all zero (x ∷ xs) h = elim h [ ]
within_all (suc n) [] h = elim h [ ]

all_reversed : (xs ys : List ℕ) → AllOctets xs → AllOctets ys → AllOctets (reverse_aux xs ys)
all_reversed [] ys h k = k
all_reversed (x ∷ xs) ys h k = all_reversed xs (x ∷ ys) h.1 (h.0, k)

pub octets_within : (n : ℕ) (xs : List ℕ) → Octets xs → length xs ≡ n → Within (replicate n 8) xs
octets_within n xs h e = subst (λ (k : ℕ). Within (replicate k 8) xs) e (all_within xs (all_octets xs h))

pub within_reversed : (n : ℕ) (xs : List ℕ) → Within (replicate n 8) xs → Within (replicate n 8) (reverse xs)
within_reversed n xs h =
    subst (λ (k : ℕ). Within (replicate k 8) (reverse xs))
    (length-reverse xs ∙ length_within (replicate n 8) xs h ∙ length-replicate n 8)
    (all_within (reverse xs) (all_reversed xs [] (within_all n xs h) tt))

pub total_eights : (n : ℕ) → total (replicate n 8) ≡ n * 8
total_eights zero = refl
total_eights (suc n) = ap (λ (k : ℕ). 8 + k) (total_eights n) ∙ omega arith
