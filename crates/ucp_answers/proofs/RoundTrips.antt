-- What every format has of a reader's answers, proved once: a written value reads back equal, and an accepted body writes back to
-- the same octets. Assumes nothing.
use mathlib.Core.Path.{◌≡◌, refl, ap, ap₂, ◌∙◌}
use mathlib.Core.Bool.{Bool, true, false}
use mathlib.Core.List.{List}
use Prim.Native.Nat.{ℕ}
use native.Mathlib.Omega.{arith}
use borrow.Author.Tests.{eqb-true, eq-eqb}
use lib.ListN.{length}
use Rattle.crc_polynomial.specs.Polynomial.{Octets}
use Rattle.field_format.specs.Format.{Format, Right, HasId, body_size, value_in, body_of, fits, TypedAs}
use Rattle.field_format.proofs.Formats.{body_size_lem, value_back, in_ranges, room, value_fits, body_again}
use Rattle.field_format.proofs.Heads.{head_found}
use Rattle.ucp_answers.specs.Refusals.{refusal_by, unless_refused, refusal_of, reads}

-- ---- the three tests
pub none_due : (right_length fixed range : Bool) → refusal_by right_length fixed range ≡ 0
    → (right_length ≡ true) × (fixed ≡ true) × (range ≡ true)
unfolding refusal_by
none_due true true true h = (refl, refl, refl)
none_due true true false h = absurd (omega arith)
none_due true false range h = absurd (omega arith)
none_due false fixed range h = absurd (omega arith)

none : {right_length fixed range : Bool} → right_length ≡ true → fixed ≡ true → range ≡ true → refusal_by right_length fixed range ≡ 0
unfolding refusal_by
none e g h = rw (e, g, h)

module _ {A : Type 0} (f : Format A) (ok : Right f) where
  -- ---- a value that is typed and fits
  module _ (a : A) (t : TypedAs f a) (h : fits f a ≡ true) where
    -- its body is accepted
    pub body_accepted : refusal_of f (body_of f a) ≡ 0
    unfolding refusal_of body_of
    body_accepted =
        none (eq-eqb _ _ (body_size_lem f ok a t (room f ok a t h))) (head_found f.head _)
        (ap f.ranges (value_back f ok a t (room f ok a t h)) ∙ in_ranges f ok a t h)

    -- and the answer to it is the value
    pub written_reads_back : {B : Type 0} (refused : ℕ → B) (means : A → B) → reads f refused means (body_of f a) ≡ means a
    unfolding reads
    written_reads_back refused means =
        ap₂ (λ (n : ℕ) (v : A). unless_refused refused n (means v)) body_accepted (value_back f ok a t (room f ok a t h))

  -- an accepted body writes back to the same octets
  pub accepted_writes_back : (body : List ℕ) → Octets body → HasId f.head body → refusal_of f body ≡ 0
      → (fits f (value_in f body) ≡ true) × (body_of f (value_in f body) ≡ body)
  unfolding refusal_of
  accepted_writes_back body o i h =
      let z = none_due _ _ _ h in
      let n = eqb-true (length body) (body_size f) z.0 in
      (value_fits f ok body o n ∙ z.2, body_again f ok body o n i z.1)
