-- An octet other than the flag. Assumes nothing.
use Rattle.std.proofs.Common.{◌≡◌, ℕ, false, eqb, List, ap, ne_eqb}
use Rattle.ucp_frame.specs.Frame.{flag}
use Rattle.ucp_receiver.specs.Answers.{receiver_answer}
use Rattle.ucp_receiver.specs.declared.Record.{Record}
use Rattle.ucp_receiver.specs.declared.Received.{Received}
use Rattle.ucp_receiver.specs.Octet.{state_after, counts_after, verdict_due, Receives}
use Rattle.ucp_receiver.specs.Steps.{Advances}

-- what it does is what a call with it does, whatever output is lent
pub other_received : {receiver : Record} {store : List ℕ} {octet : ℕ} {given : Received} {store_after : List ℕ} → (octet ≡ flag → ⊥)
    → Advances receiver store octet given store_after → (output : List ℕ) → Receives receiver store octet output given store_after output
unfolding state_after counts_after verdict_due
other_received {octet = octet} other a output =
    let t : eqb octet flag ≡ false = ne_eqb octet flag other in
    record { state = rw t a.state; account = rw t a.account; answers = rw t (ap receiver_answer a.answers); puts = rw t }
