-- What the readers of the kinds answer, each with its own value. Assumes nothing.
use Rattle.std.specs.Prelude.{◌≡◌, List, ℕ, Result, Ok, Err}
use Rattle.refusals.specs.Refusals.{refusal_number}
use Rattle.refusals.specs.declared.Refusal.{Refusal}
use Rattle.field_format.specs.Format.{Format}
use Rattle.ucp_answers.specs.Refusals.{unless_refused, reads}
use Rattle.ucp_messages.specs.Uplink7.{uplink_refusal}

-- the paper's number of a refusal, or the value
abbrev pub number_or_zero : {A : Type 0} → Result A Refusal → Result A ℕ
number_or_zero (Err refusal) = Err (refusal_number refusal)
number_or_zero (Ok a) = Ok a

-- one call, whole, of a body that has the ID of a kind with a format: the refusal that is due, or the value
abbrev pub ReadsValue : {A : Type 0} → Format A → List ℕ → Result A Refusal → Type 0
ReadsValue f body answer = number_or_zero answer ≡ reads f Err Ok body

-- the same of an uplink, which has no value
abbrev pub ReadsUplinkBody : List ℕ → Result (Unit {0}) Refusal → Type 0
ReadsUplinkBody body answer = number_or_zero answer ≡ unless_refused Err (uplink_refusal body) (Ok tt)
