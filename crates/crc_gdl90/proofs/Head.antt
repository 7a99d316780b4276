-- The first octets of a body, at most two, are their own check. Assumes nothing.
use mathlib.Core.Path.{◌≡◌, refl, ap, ◌∙◌}
use mathlib.Core.List.{List, [], ◌∷◌, ◌++◌, append-nil}
use Prim.Native.Nat.{ℕ, ◌+◌, ◌*◌, ◌<◌}
use native.Mathlib.Nat.{zero-add}
use native.Mathlib.Omega.{arith}
use lib.ListN.{length, get_or, take, drop}
use lib.Seq.{take-suc}
use Rattle.crc_polynomial.specs.Polynomial.{bits_of_octets, bits_of, divided}
use Rattle.crc_polynomial.proofs.Laws.{divided_append}
use Rattle.crc_gdl90.proofs.Step.{octet_down}
use Rattle.crc_gdl90.proofs.Eight.{part_first}

pub take_none : (n : ℕ) (body : List ℕ) → n ≡ 0 → take n body ≡ []
take_none n body e = ap (λ (k : ℕ). take k body) e

pub take_one : (n : ℕ) (body : List ℕ) → n ≡ 1 → 0 < length body → take n body ≡ get_or body 0 0 ∷ []
take_one n body e h = ap (λ (k : ℕ). take k body) e ∙ take-suc body 0 0 h

pub take_two : (n : ℕ) (body : List ℕ) → n ≡ 2 → 1 < length body → take n body ≡ get_or body 0 0 ∷ get_or body 1 0 ∷ []
take_two n body e h =
    ap (λ (k : ℕ). take k body) e
    ∙ take-suc body 1 0 h
    ∙ ap (λ (xs : List ℕ). xs ++ get_or body 1 0 ∷ []) (take-suc body 0 0 (omega arith))

first_octet : (x : ℕ) → x < 256 → divided 0 (bits_of 8 x) ≡ x
first_octet x h = octet_down 0 x (omega arith) h ∙ zero-add x

pub one_octet : (x : ℕ) → x < 256 → divided 0 (bits_of_octets (x ∷ [])) ≡ x
unfolding bits_of_octets
one_octet x h = ap (divided 0) (append-nil (bits_of 8 x)) ∙ first_octet x h

pub two_octets : (x y : ℕ) → x < 256 → y < 256 → divided 0 (bits_of_octets (x ∷ y ∷ [])) ≡ x * 256 + y
unfolding bits_of_octets
two_octets x y hx hy =
    divided_append 0 (bits_of 8 x) (bits_of 8 y ++ [])
    ∙ ap (λ (n : ℕ). divided n (bits_of 8 y ++ [])) (first_octet x hx)
    ∙ ap (divided x) (append-nil (bits_of 8 y))
    ∙ octet_down x y hx hy

-- the first k octets, and then the others
pub head_first : (k : ℕ) (body : List ℕ) → divided 0 (bits_of_octets body) ≡ divided (divided 0 (bits_of_octets (take k body))) (bits_of_octets (drop k body))
head_first k body =
    part_first k 0 body 0 (take k body) refl
    ∙ ap (λ (n : ℕ). divided (divided 0 (bits_of_octets (take k body))) (bits_of_octets (drop n body))) (zero-add k)
