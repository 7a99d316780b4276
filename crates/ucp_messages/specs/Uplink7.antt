-- Message 7, Uplink: its 435 octets behind the ID are carried as they are (document 01). Assumes nothing.
use Rattle.std.specs.Prelude.{Bool, true, List, ◌∷◌, ℕ, eqb, length}
use Rattle.ucp_answers.specs.Refusals.{refusal_by}

unfoldable pub uplink_fits : List ℕ → Bool
uplink_fits payload = eqb (length payload) 435

abbrev pub uplink_body : List ℕ → List ℕ
uplink_body payload = 7 ∷ payload

-- the refusal of a body as a message of this kind
abbrev pub uplink_refusal : List ℕ → ℕ
uplink_refusal body = refusal_by (eqb (length body) 436) true true
