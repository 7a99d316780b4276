-- What a payload's octets are once a body's are stored over all of them. Assumes nothing.
use mathlib.Core.Path.{◌≡◌, ap, ◌∙◌}
use mathlib.Core.Bool.{Bool, cond}
use mathlib.Core.List.{List, ◌++◌, append-nil}
use Prim.Native.Nat.{ℕ, ◌-◌}
use native.Mathlib.Omega.{arith}
use borrow.Author.Tests.{le-leb}
use lib.Dec.{leb}
use lib.ListN.{length, take, drop, length-drop}
use lib.Seq.{take_all, drop-length}

-- the part of a body that is lent
behind_is : (body : List ℕ) → take (length body - 1) (drop 1 body) ≡ drop 1 body
behind_is body = take_all (length body - 1) (drop 1 body) (simp length-drop (omega arith))

module _ (octets before : List ℕ) {r : Bool} {after : List ℕ} (n : length octets ≡ length before) where
  over_all : r ≡ leb (length octets) (length before) → after ≡ cond r (octets ++ drop (length octets) before) before → after ≡ octets
  over_all e is =
      is
      ∙ ap (λ (t : Bool). cond t (octets ++ drop (length octets) before) before) (e ∙ le-leb (length octets) (length before) (omega arith))
      ∙ ap (λ (k : ℕ). octets ++ drop k before) n
      ∙ ap (λ (l : List ℕ). octets ++ l) (drop-length before)
      ∙ append-nil octets

pub all_stored : (body before : List ℕ) {r : Bool} {after : List ℕ} → length body ≡ 436 → length before ≡ 435
    → r ≡ leb (length (take (length body - 1) (drop 1 body))) (length before)
    → after ≡ cond r (take (length body - 1) (drop 1 body) ++ drop (length (take (length body - 1) (drop 1 body))) before) before
    → after ≡ drop 1 body
all_stored body before n m e is =
    let size : length (drop 1 body) ≡ length before = simp length-drop (omega arith) in
    over_all (take (length body - 1) (drop 1 body)) before (ap length (behind_is body) ∙ size) e is ∙ behind_is body
