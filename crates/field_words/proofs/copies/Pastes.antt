-- A copy goes on where it stopped. Assumes nothing.
use mathlib.Core.Path.{◌≡◌, sym, ap, ap₂, ◌∙◌}
use mathlib.Core.List.{List, ◌++◌, append_assoc}
use Prim.Native.Nat.{ℕ, ◌+◌, ◌≤◌}
use native.Mathlib.Omega.{arith}
use lib.ListN.{length, take, drop, length-drop}
use lib.Seq.{sets, sets-eq, paste, take-paste, drop-paste, take-add, drop-drop, length-paste, length-take-le}

module _ (d : List ℕ) (at : ℕ) (s : List ℕ) (i k : ℕ) (room : at + (i + k) ≤ length d) (some : i + k ≤ length s) where
  pub paste_more : paste (paste d at s i) (at + i) (drop i s) k ≡ paste d at s (i + k)
  paste_more =
      let ahead = take-paste d at s i (omega arith) (omega arith) in
      let e : at + i + k ≡ at + (i + k) = omega arith in
      let behind =
      sym (drop-drop k (at + i) (paste d at s i)) ∙ ap (drop k) (drop-paste d at s i (omega arith) (omega arith)) ∙ drop-drop k (at + i) d
      ∙ ap (λ (n : ℕ). drop n d) e
      in
      ap₂ (λ (xs ys : List ℕ). xs ++ take k (drop i s) ++ ys) ahead behind
      ∙ ap (λ (xs : List ℕ). xs ++ drop (at + (i + k)) d)
      (append_assoc (take at d) (take i s) (take k (drop i s)) ∙ ap (λ (xs : List ℕ). take at d ++ xs) (sym (take-add i k s)))

  -- eight more, or so many
  pub sets_more : {l : List ℕ} → l ≡ paste d at s i → sets l (at + i) (take k (drop i s)) ≡ paste d at s (i + k)
  sets_more {l} e =
      let n : length (take k (drop i s)) ≡ k = length-take-le k (drop i s) (omega (arith, length-drop i s)) in
      let m : length l ≡ length d = ap length e ∙ length-paste d at s i (omega arith) (omega arith) in
      sets-eq (take k (drop i s)) l (at + i) (omega arith)
      ∙ ap (λ (j : ℕ). take (at + i) l ++ take k (drop i s) ++ drop (at + i + j) l) n
      ∙ ap (λ (xs : List ℕ). paste xs (at + i) (drop i s) k) e
      ∙ paste_more
