-- Octets put behind octets that were put. Assumes nothing.
use mathlib.Core.Path.{sym, ap₂, ◌∙◌}
use mathlib.Core.List.{List, ◌++◌}
use Prim.Native.Nat.{ℕ}
use native.Mathlib.Omega.{arith}
use lib.ListN.{length-append}
use lib.Seq.{sets}
use Rattle.field_words.proofs.Sets.{sets_append}
use Rattle.output_writing.specs.Puts.{Puts}

pub both : {before mid after us vs : List ℕ} {at next last : ℕ} → Puts before at us next mid → Puts mid next vs last after
    → Puts before at (us ++ vs) last after
both {before} {mid} {after} {us} {vs} {at} p q = record {
  ends = omega (arith, p.ends, q.ends, length-append us vs);
  leaves = q.leaves ∙ ap₂ (λ (l : List ℕ) (n : ℕ). sets l n vs) p.leaves p.ends ∙ sym (sets_append before at us vs);
}
