-- Several octets counted at once, in any one of the counts. Assumes nothing.
use Rattle.std.proofs.Common.{◌≡◌, ℕ, zero, suc, ◌+◌, ◌%◌, ◌^◌, ◌<◌, sym, ap, ◌∙◌, arith}
use Rattle.ucp_receiver.specs.declared.Counts.{Counts}
use Rattle.ucp_receiver.specs.Account.{plus, repeated}

none_more : (count : ℕ) → count < 2 ^ 32 → (count + 0) % 2 ^ 32 ≡ count
none_more count h = omega arith

one_more : (count n : ℕ) → (count + suc n) % 2 ^ 32 ≡ ((count + n) % 2 ^ 32 + 1) % 2 ^ 32
one_more count n = omega arith

round : (count n : ℕ) → (count + n % 2 ^ 32) % 2 ^ 32 ≡ (count + n) % 2 ^ 32
round count n = omega arith

-- `put` has the count in its place, and an octet counted is one more there
module _ (put : ℕ → Counts) (counted : Counts → Counts) (one : (k : ℕ) → counted (put k) ≡ put (plus k 1)) where
  many : (count n : ℕ) → count < 2 ^ 32 → put (plus count n) ≡ repeated counted n (put count)
  many count zero h = ap put (none_more count h)
  many count (suc n) h = ap put (one_more count n) ∙ sym (one (plus count n)) ∙ ap counted (many count n h)

  pub many_rounded : (count n by : ℕ) → count < 2 ^ 32 → by ≡ n % 2 ^ 32 → put (plus count by) ≡ repeated counted n (put count)
  many_rounded count n by h b = ap put (ap (plus count) b ∙ round count n) ∙ many count n h
