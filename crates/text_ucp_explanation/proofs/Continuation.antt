-- What a caller of `explain_next` needs to go on with a slice: the record behind the slice is the same from there on, and its
-- lines are this answer's and those of the octets that are left. Assumes nothing.
use mathlib.Core.Path.{◌≡◌, refl, sym, ap, ◌∙◌}
use mathlib.Core.List.{List, [], ◌∷◌, ◌++◌}
use Prim.Native.Nat.{ℕ}
use native.Mathlib.Numerals.{add-one}
use lib.ListN.{length, drop}
use Rattle.ucp_frame.specs.Stretch.{Verdict, silent, refused, delivered}
use Rattle.ucp_receiver.specs.declared.Record.{Record}
use Rattle.ucp_receiver.specs.declared.Counts.{Counts}
use Rattle.ucp_receiver.specs.declared.Taken.{Taken}
use Rattle.ucp_receiver.specs.Octet.{State, state_after, verdict_due, counts_after, state_of}
use Rattle.ucp_receiver.specs.Slice.{SliceRun, slice_run, later, end_at, Takes}
use Rattle.text_ucp_listing.specs.Listing.{body_room}
use Rattle.text_ucp_listing.specs.Lists.{behind_all}
use Rattle.text_ucp_explanation.specs.Explanation.{explanation, every_explanation}

abbrev From : State → Counts → List ℕ → SliceRun → Type 0
From s c xs r =
    (behind_all s c xs ≡ behind_all r.state r.counts (drop r.taken xs))
    × (every_explanation s c xs ≡ explanation r.verdict ++ every_explanation r.state r.counts (drop r.taken xs))

run_onward : (s : State) (c : Counts) (xs : List ℕ) → From s c xs (slice_run s c xs body_room)
unfolding slice_run behind_all every_explanation
run_onward s c [] = (refl, refl)
run_onward s c (x ∷ xs) =
    go (verdict_due s x body_room) (slice_run (state_after s x) (counts_after c s x body_room) xs body_room)
    (run_onward (state_after s x) (counts_after c s x body_room) xs)
  where
    go : (due : Verdict) (r : SliceRun) → From (state_after s x) (counts_after c s x body_room) xs r
        → let end = end_at due (record { state = state_after s x; counts = counts_after c s x body_room; taken = 1; verdict = due }) (later r) in
        (behind_all (state_after s x) (counts_after c s x body_room) xs ≡ behind_all end.state end.counts (drop end.taken (x ∷ xs)))
        × (explanation due ++ every_explanation (state_after s x) (counts_after c s x body_room) xs ≡ explanation end.verdict ++ every_explanation end.state end.counts (drop end.taken (x ∷ xs)))
    go silent r e =
        let further = sym (add-one r.taken) in (
          e.0 ∙ ap (λ (n : ℕ). behind_all r.state r.counts (drop n (x ∷ xs))) further,
          e.1 ∙ ap (λ (n : ℕ). explanation r.verdict ++ every_explanation r.state r.counts (drop n (x ∷ xs))) further,
        )
    go (refused number) r e = (refl, refl)
    go (delivered octets) r e = (refl, refl)

module _ {receiver : Record} {store line room : List ℕ} {given : Taken} {store_after room_after : List ℕ}
    (takes : Takes receiver store line room given store_after room_after) (long : length room ≡ body_room) where
  abbrev here : SliceRun
  here = slice_run (state_of receiver.rest store) receiver.counts line body_room

  same : slice_run (state_of receiver.rest store) receiver.counts line (length room) ≡ here
  same = rw long

  state : here.state ≡ state_of given.receiver.rest store_after
  state = sym (takes.state ∙ ap (λ (r : SliceRun). r.state) same)

  account : here.counts ≡ given.receiver.counts
  account = sym (takes.account ∙ ap (λ (r : SliceRun). r.counts) same)

  taken : here.taken ≡ given.taken
  taken = sym (takes.taken ∙ ap (λ (r : SliceRun). r.taken) same)

  pub takes_onward : behind_all (state_of receiver.rest store) receiver.counts line
      ≡ behind_all (state_of given.receiver.rest store_after) given.receiver.counts (drop given.taken line)
  takes_onward =
      (run_onward (state_of receiver.rest store) receiver.counts line).0
      ∙ (λ i. behind_all (state i) (account i) (drop (taken i) line))

  -- the line of this answer, and then those of the octets that are left
  pub takes_text : every_explanation (state_of receiver.rest store) receiver.counts line
      ≡ explanation here.verdict ++ every_explanation (state_of given.receiver.rest store_after) given.receiver.counts (drop given.taken line)
  takes_text =
      (run_onward (state_of receiver.rest store) receiver.counts line).1
      ∙ (λ i. explanation here.verdict ++ every_explanation (state i) (account i) (drop (taken i) line))
