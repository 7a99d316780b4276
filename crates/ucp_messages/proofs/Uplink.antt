-- A payload that is stored behind the ID. Assumes nothing.
use mathlib.Core.Path.{◌≡◌, ap, ap₂, ◌∙◌}
use mathlib.Core.List.{List, [], ◌∷◌, ◌++◌, append-nil}
use Prim.Native.Nat.{ℕ, suc, ◌-◌, ◌≤◌}
use native.Mathlib.Omega.{arith}
use borrow.Rule.Slice.PartMut.{mid_of, put_mid}
use lib.ListN.{length, take, drop, set}
use lib.Seq.{take-length, drop-length}

-- how many octets are behind the ID
abbrev pub left : List ℕ → ℕ
left output = length (set output 0 7) - 1

-- there are as many as the output has, less one
pub behind_length : (output : List ℕ) → 436 ≤ length output → 435 ≤ length (mid_of 1 (left output) (set output 0 7))
behind_length [] h = absurd (omega arith)
behind_length (x ∷ rest) h =
    let n : suc (length rest) - 1 ≡ length rest = omega arith in
    rw (n, take-length rest) (omega arith)

pub put_behind : (output payload : List ℕ) {after : List ℕ} → 436 ≤ length output → length payload ≡ 435
    → after ≡ payload ++ drop (length payload) (mid_of 1 (left output) (set output 0 7))
    → put_mid 1 (left output) (set output 0 7) after ≡ 7 ∷ payload ++ drop 436 output
put_behind [] payload h p e = absurd (omega arith)
put_behind (x ∷ rest) payload {after} h p e =
    let n : suc (length rest) - 1 ≡ length rest = omega arith in
    let none : drop (suc (length rest) - 1) rest ≡ [] = rw (n, drop-length rest) in
    let whole : take (suc (length rest) - 1) rest ≡ rest = rw (n, take-length rest) in
    let all : after ≡ payload ++ drop 435 rest = e ∙ rw (whole, p) in
    ap (λ (l : List ℕ). 7 ∷ l) (ap₂ ◌++◌ all none ∙ append-nil (payload ++ drop 435 rest))
