-- The chunks of a list, as the library's as_chunks has them. Assumes nothing.
use mathlib.Core.Path.{◌≡◌, sym, ap, ◌∙◌}
use mathlib.Core.List.{List, []}
use Prim.Native.Nat.{ℕ, zero, suc, ◌+◌, ◌*◌, ◌<◌}
use native.Mathlib.Nat.{zero-mul, suc-mul, add_comm}
use native.Mathlib.Omega.{arith}
use lib.ListN.{get_or, take, drop}
use lib.Seq.{drop-drop, get_or-drop, get_or-take}
use Rattle.std.specs.Simd.{first_chunks}

-- each chunk stands at its place
chunk_at : (n k : ℕ) (xs : List ℕ) (i : ℕ) (d : List ℕ) → i < k → get_or (first_chunks n k xs) i d ≡ take n (drop (i * n) xs)
chunk_at n zero xs i d h = absurd (omega arith)
chunk_at n (suc k) xs zero d h = rw zero-mul
chunk_at n (suc k) xs (suc i) d h =
    chunk_at n k (drop n xs) i d (omega arith)
    ∙ ap (take n) (drop-drop (i * n) n xs ∙ ap (λ (m : ℕ). drop m xs) (add_comm n (i * n) ∙ sym (suc-mul i n)))

-- the same of chunks that are held
module _ (n : ℕ) (xs : List ℕ) (i : ℕ) {k : ℕ} {chunks : List (List ℕ)} (e : chunks ≡ first_chunks n k xs) (h : i < k) where
  pub chunk : get_or chunks i [] ≡ take n (drop (i * n) xs)
  chunk = ap (λ (l : List (List ℕ)). get_or l i []) e ∙ chunk_at n k xs i [] h

  -- and the octets of each
  pub chunk_octet : (j : ℕ) → j < n → get_or (get_or chunks i []) j 0 ≡ get_or xs (i * n + j) 0
  chunk_octet j l = ap (λ (ys : List ℕ). get_or ys j 0) chunk ∙ get_or-take n (drop (i * n) xs) j 0 l ∙ get_or-drop (i * n) xs j 0
