-- A loop that copies octets of one list into another. Assumes nothing.
use Rattle.std.proofs.Common.{◌≡◌, ℕ, suc, ◌+◌, ◌<◌, List, ◌++◌, length, get_or, take, drop, set, sym, ap, ◌∙◌, zero-add, add-one, arith}
use lib.Seq.{paste-suc}

-- one octet more, at the start of the list
pub copied_more : (to «from» : List ℕ) (i : ℕ) → i < length to → i < length «from»
    → set (take i «from» ++ drop i to) i (get_or «from» i 0) ≡ take (i + 1) «from» ++ drop (i + 1) to
copied_more to «from» i ht hf =
    ap (λ (k : ℕ). set (take i «from» ++ drop k to) k (get_or «from» i 0)) (sym (zero-add i))
    ∙ paste-suc to 0 «from» i 0 (omega arith) hf
    ∙ ap (λ (k : ℕ). take (suc i) «from» ++ drop k to) (zero-add (suc i))
    ∙ ap (λ (k : ℕ). take k «from» ++ drop k to) (sym (add-one i))
