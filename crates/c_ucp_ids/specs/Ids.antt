-- The ID of a body's kind, in numbers (document 01, "Message kinds on the UCP line", and the table's row 10). Assumes nothing.
use Rattle.std.specs.Prelude.{cond, List, ℕ, get_or, Result, Ok, Err}
use Rattle.refusals.specs.Numbers as because
use Rattle.refusals.specs.Refusals.{refusal_number}
use Rattle.refusals.specs.declared.Refusal.{Refusal}
use Rattle.ucp_messages.specs.Kinds.{is_known, kind_in}
use Rattle.c_ucp_ids.specs.declared.OstrogoszId.{OstrogoszId}

-- an answer in numbers
abbrev pub ucp_id_numbers : Result ℕ Refusal → OstrogoszId
ucp_id_numbers (Ok id) = record { refusal = 0; id = id }
ucp_id_numbers (Err refusal) = record { refusal = refusal_number refusal; id = 0 }

-- one call, whole: the first octet of a body of a known kind, else 10
unfoldable pub id_due : List ℕ → OstrogoszId
id_due body = cond (is_known (kind_in body)) (record { refusal = 0; id = get_or body 0 0 }) (record { refusal = because.unknown_id; id = 0 })
