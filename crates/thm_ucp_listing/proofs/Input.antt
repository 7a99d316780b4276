-- The text of the receiver's steps is the history's, octet by octet. Assumes nothing.
use mathlib.Core.Path.{◌≡◌, refl, ap, ap₂, subst, ◌∙◌}
use mathlib.Core.List.{List, [], ◌∷◌, ◌++◌, map, append_assoc, append-nil}
use Prim.Native.Nat.{ℕ}
use Rattle.ucp_history.specs.History.{Call, cut_at_flags, open_stretch, over_closed, account}
use Rattle.ucp_receiver.specs.declared.Counts.{Counts}
use Rattle.ucp_receiver.specs.Account.{zero_counts}
use Rattle.ucp_receiver.specs.Octet.{State, fresh, state_after, counts_after}
use Rattle.text_ucp_listing.specs.Listing.{body_room, answer_line, closing_line}
use Rattle.text_ucp_listing.specs.Lists.{RecordBehind, behind_all, every_line}
use Rattle.thm_ucp_receiver.proofs.Record.{Stands, stands_fresh, stands_next, stands_answer}
use Rattle.thm_ucp_receiver.proofs.Counts.{stands_counts}
use Rattle.thm_ucp_receiver.specs.Promises.{account_counts}
use Rattle.thm_ucp_listing.specs.Input.{listed_call, answer_lines, StepsAreListing}

abbrev pub listed_after : List Call → List ℕ → List Call
listed_after h xs = h ++ map listed_call xs

pub one_call : (h : List Call) (x : ℕ) (xs : List ℕ) → listed_after (h ++ (listed_call x ∷ [])) xs ≡ listed_after h (x ∷ xs)
one_call h x xs = append_assoc h (listed_call x ∷ []) (map listed_call xs)

-- the record stands where the history does, and its counts are the history's
pub record Keeps (h : List Call) (s : State) (c : Counts) : Type 0 where
  pub stands : Stands h s
  pub tally : c ≡ account_counts (account h)

pub keeps_fresh : Keeps [] fresh zero_counts
unfolding cut_at_flags over_closed open_stretch
keeps_fresh = record { stands = stands_fresh; tally = refl }

keeps_next : (h : List Call) (s : State) (c : Counts) (x : ℕ) → Keeps h s c
    → Keeps (h ++ (listed_call x ∷ [])) (state_after s x) (counts_after c s x body_room)
keeps_next h s c x k =
    record {
      stands = stands_next h s (listed_call x) k.stands;
      tally = ap (λ (d : Counts). counts_after d s x body_room) k.tally ∙ stands_counts h s (listed_call x) k.stands;
    }

abbrev pub KeepsBehind : List Call → RecordBehind → Type 0
KeepsBehind h b = Keeps h b.state b.counts

-- the record behind some octets
pub keeps_behind : (h : List Call) (s : State) (c : Counts) (xs : List ℕ) → Keeps h s c → KeepsBehind (listed_after h xs) (behind_all s c xs)
unfolding behind_all
keeps_behind h s c [] k = rw append-nil k
keeps_behind h s c (x ∷ xs) k =
    subst (λ (l : List Call). KeepsBehind l (behind_all (state_after s x) (counts_after c s x body_room) xs)) (one_call h x xs)
    (keeps_behind (h ++ (listed_call x ∷ [])) (state_after s x) (counts_after c s x body_room) xs (keeps_next h s c x k))

-- the lines of some octets
pub lines_by_history : (h : List Call) (s : State) (c : Counts) (xs : List ℕ) → Keeps h s c → every_line s c xs ≡ answer_lines h xs
unfolding every_line answer_lines
lines_by_history h s c [] k = refl
lines_by_history h s c (x ∷ xs) k =
    ap₂ (λ (l m : List ℕ). l ++ m) (ap answer_line (stands_answer h s (listed_call x) k.stands))
    (lines_by_history (h ++ (listed_call x ∷ [])) _ _ xs (keeps_next h s c x k))

pub steps_are_listing : StepsAreListing
steps_are_listing input =
    ap₂ (λ (l : List ℕ) (c : Counts). l ++ closing_line c) (lines_by_history [] fresh zero_counts input keeps_fresh)
    (keeps_behind [] fresh zero_counts input keeps_fresh).tally
