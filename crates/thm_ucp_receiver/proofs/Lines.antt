-- Every list of octets is the line of the calls that answer as they must. Assumes nothing.
use mathlib.Core.Path.{◌≡◌, refl, ap}
use mathlib.Core.List.{List, [], ◌∷◌, map}
use Prim.Native.Nat.{suc}
use lib.ListN.{length}
use Rattle.crc_polynomial.specs.Polynomial.{Octets}
use Rattle.ucp_receiver.specs.declared.Counts.{Counts}
use Rattle.ucp_receiver.specs.Account.{zero_counts}
use Rattle.ucp_receiver.specs.Answers.{output_at_flag}
use Rattle.ucp_receiver.specs.Octet.{State, fresh, state_after, verdict_due, counts_after}
use Rattle.thm_ucp_receiver.specs.Line.{Observed, Meets, Runs}
use Rattle.thm_ucp_receiver.specs.Lines.{Handed, handed_to, EveryLine}
use Rattle.thm_ucp_receiver.proofs.Answered.{due_told}

-- the call that the contract asks for
abbrev pub called : State → Counts → Handed → Observed
called s c h =
    record {
      octet = h.octet;
      output = h.output;
      given = record {
        receiver = record { rest = (state_after s h.octet).rest; counts = counts_after c s h.octet (length h.output) };
        answer = (due_told s h.octet (length h.output)).answer;
      };
      store_after = (state_after s h.octet).store;
      output_then = output_at_flag (verdict_due s h.octet (length h.output)) h.output;
    }

abbrev run : State → Counts → List Handed → List Observed
run s c [] = []
run s c (h ∷ hs) = called s c h ∷ run (state_after s h.octet) (counts_after c s h.octet (length h.output)) hs

pub called_receives : (s : State) (c : Counts) (h : Handed) → Meets (record { rest = s.rest; counts = c }) s.store (called s c h)
called_receives s c h =
    record { state = refl; account = refl; answers = (due_told s h.octet (length h.output)).tells; puts = refl }

runs : (s : State) (c : Counts) (hs : List Handed) → Octets (map (λ (h : Handed). h.octet) hs) → Runs (record { rest = s.rest; counts = c }) s.store (run s c hs)
runs s c [] o = tt
runs s c (h ∷ hs) o = (
  o 0,
  called_receives s c h,
  runs (state_after s h.octet) (counts_after c s h.octet (length h.output)) hs (λ i. o (suc i)),
)

same : (s : State) (c : Counts) (hs : List Handed) → map handed_to (run s c hs) ≡ hs
same s c [] = refl
same s c (h ∷ hs) =
    ap (λ (l : List Handed). h ∷ l) (same (state_after s h.octet) (counts_after c s h.octet (length h.output)) hs)

pub every_line : EveryLine
every_line given o = record { calls = run fresh zero_counts given; line = runs fresh zero_counts given o; same = same fresh zero_counts given }
