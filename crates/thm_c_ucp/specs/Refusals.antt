-- When the linked receiver refuses (document 01, the table's rows 1 to 6), in C's numbers: kind 2 is a refusal, by its number, and 0 is
-- silence. The conditions are those of thm_ucp_receiver. Assumes nothing.
use Rattle.std.specs.Prelude.{◌≡◌, List, ◌∷◌, ◌++◌, map, ℕ, length}
use Rattle.ucp_frame.specs.Frame.{flag}
use Rattle.ucp_history.specs.History.{cut_at_flags, open_stretch}
use Rattle.thm_ucp_receiver.specs.Refusals.{RefusesWhen}
use Rattle.thm_c_ucp.specs.Receiver.{LinkedCall, LinkedLine, linked_call_of}

abbrev pub NumbersRefuse : ℕ → ℕ → ℕ → Type 0
NumbersRefuse kind value number = (kind ≡ 2) × (value ≡ number)

-- of every linked line: a flag is answered so, by the stretch that it closes, and no other octet brings an answer
abbrev pub LinkedReceiverRefusesWhen : Type 0
LinkedReceiverRefusesWhen =
    (before after : List LinkedCall) (c : LinkedCall) → LinkedLine (before ++ c ∷ after)
    → (c.octet ≡ flag
    → RefusesWhen (open_stretch (cut_at_flags (map linked_call_of before)).flags) (length c.output) (NumbersRefuse c.kind c.value) (c.kind ≡ 0))
    × ((c.octet ≡ flag → ⊥) → c.kind ≡ 0)
