-- What a reader answers to a body that has its kind's ID (document 01, the table's rows 11 to 13 and the paragraph below it).
-- Assumes nothing.
use Rattle.std.specs.Prelude.{Bool, cond, true, ℕ, eqb, List, length, drop}
use Rattle.field_format.specs.Format.{Format, stand_at, body_size, value_in}
use Rattle.refusals.specs.Numbers as because

-- 11 for another length than the kind's, then 12 for a wrong version, signature or subtype, then 13 for a field outside
-- its range; 0, where none is due
unfoldable pub refusal_by : Bool → Bool → Bool → ℕ
refusal_by right_length fixed_octets in_ranges = cond right_length (cond fixed_octets (cond in_ranges 0 because.field) because.fixed) because.message_length

-- the refusal, or the message where there is none
abbrev pub unless_refused : {A : Type 0} → (ℕ → A) → ℕ → A → A
unless_refused refused refusal message = cond (eqb refusal 0) message (refused refusal)

module _ {A : Type 0} (f : Format A) where
  -- the refusal of a body that has the kind's ID: 11, 12, 13 or none, 0
  unfoldable pub refusal_of : List ℕ → ℕ
  refusal_of body = refusal_by (eqb (length body) (body_size f)) (stand_at true 1 (drop 1 f.head) body) (f.ranges (value_in f body))

  -- a reader's answer: the refusal, or what the value means
  unfoldable pub reads : {B : Type 0} → (ℕ → B) → (A → B) → List ℕ → B
  reads refused means body = unless_refused refused (refusal_of body) (means (value_in f body))
