-- What a reader of one kind answers, and what it leaves in the octets of the struct that it is lent (document 01, the table's
-- rows 10 to 13 and the paragraph below it). Assumes nothing.
use Rattle.std.specs.Prelude.{◌≡◌, Bool, cond, ◌&&◌, List, ℕ, eqb, ltb, length, get_or}
use Rattle.field_format.specs.Format.{Format, value_in}
use Rattle.refusals.specs.Numbers as because
use Rattle.ucp_answers.specs.Refusals.{refusal_of}
use Rattle.c_lent.specs.Structs.{Struct, stored}

-- a body of a kind: it has an octet, and the first is the kind's ID
abbrev pub has_id : ℕ → List ℕ → Bool
has_id id body = ltb 0 (length body) && eqb (get_or body 0 0) id

-- 10 for a body of another kind, then the kind's own refusal; 0, where none is due
unfoldable pub refusal_as : ℕ → List ℕ → ℕ → ℕ
refusal_as id body refusal = cond (has_id id body) refusal because.unknown_id

-- one call, whole: the refusal that is due, the octets of the struct and those that were lent; the answer, and what is left
pub record FillsStruct (due : ℕ) (octets before : List ℕ) (answer : ℕ) (after : List ℕ) : Type 0 where
  pub answers : answer ≡ due
  pub leaves : after ≡ cond (eqb due 0) octets before

-- the same of a kind's format and struct
abbrev pub ReadsInto : {A : Type 0} → Format A → Struct A → List ℕ → List ℕ → ℕ → List ℕ → Type 0
ReadsInto f s body = FillsStruct (refusal_as (get_or f.head 0 0) body (refusal_of f body)) (stored s (value_in f body))
