-- `field_layout::store` meets its contract. Assumes nothing.
use Rattle.std.proofs.Common.{◌≡◌, ℕ, suc, ◌+◌, ◌<◌, List, ◌++◌, length, get_or, take, drop, set, sym, ap, ◌∙◌, arith, length-set, zero-add, add-one}
use borrow.Author.Tests.{le-leb}
use lib.Seq.{take-length, paste-suc}
use Rattle.field_layout.proofs.store.Goals as goal

-- one octet more
copied_more : (to «from» : List ℕ) (i : ℕ) → i < length to → i < length «from»
    → set (take i «from» ++ drop i to) i (get_or «from» i 0) ≡ take (i + 1) «from» ++ drop (i + 1) to
copied_more to «from» i ht hf =
    ap (λ (k : ℕ). set (take i «from» ++ drop k to) k (get_or «from» i 0)) (sym (zero-add i))
    ∙ paste-suc to 0 «from» i 0 (omega arith) hf
    ∙ ap (λ (k : ℕ). take (suc i) «from» ++ drop k to) (zero-add (suc i))
    ∙ ap (λ (k : ℕ). take k «from» ++ drop k to) (sym (add-one i))

pub loop-i-preserved : goal.loop-i-preserved
loop-i-preserved c =
    let a = c.args in
    let l = c.loop-i in (
      l.invariant.0,
      simp length-set l.invariant.1,
      ap (λ (xs : List ℕ). set xs l.i (get_or a.octets.now l.i 0)) l.invariant.2
          ∙ copied_more a.output.now a.octets.now l.i (omega arith) (omega arith),
    )

pub returns : goal.returns
returns c =
    let a = c.args in
    let l = c.loop-i in
    let all : l.i ≡ length a.octets.now = omega arith in (
      sym (le-leb _ _ l.invariant.0),
      l.invariant.2 ∙ ap (λ (k : ℕ). take k a.octets.now ++ drop k a.output.now) all
          ∙ ap (λ (xs : List ℕ). xs ++ drop (length a.octets.now) a.output.now) (take-length a.octets.now),
    )
