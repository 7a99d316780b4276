-- A line: calls of the receiver, one for each line octet, each with the record as the last one left it. Rests on the
-- receiver's contract alone. Assumes nothing.
use Rattle.std.specs.Prelude.{List, [], ◌∷◌, ◌++◌, map, ℕ, ◌<◌, length}
use Rattle.ucp_history.specs.History.{Call}
use Rattle.ucp_receiver.specs.declared.Record.{Record}
use Rattle.ucp_receiver.specs.declared.Received.{Received}
use Rattle.ucp_receiver.specs.Octet.{no_octets, fresh_record, Receives}

-- one call: the octet and the output as at entry; what is given back, the store and the output as at return
pub record Observed : Type 0 where
  pub octet : ℕ
  pub output : List ℕ
  pub given : Received
  pub store_after : List ℕ
  pub output_then : List ℕ

-- its part in the history, and the history up to it
abbrev pub call_of : Observed → Call
call_of o = record { octet = o.octet; room = length o.output }

abbrev pub up_to : List Observed → Observed → List Call
up_to before o = map call_of before ++ (call_of o ∷ [])

-- the call meets the contract from this record
abbrev pub Meets : Record → List ℕ → Observed → Type 0
Meets receiver store o = Receives receiver store o.octet o.output o.given o.store_after o.output_then

-- each of these calls has an octet and meets the contract, the first from this record and the others from what the one
-- before gave back
abbrev pub Runs : Record → List ℕ → List Observed → Type 0
Runs receiver store [] = Unit
Runs receiver store (o ∷ os) =
    (o.octet < 256) × Meets receiver store o × Runs o.given.receiver o.store_after os

-- a fresh receiver hunts and has every count at 0
abbrev pub Line : List Observed → Type 0
Line = Runs fresh_record no_octets
