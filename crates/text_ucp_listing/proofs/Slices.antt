-- What a caller of `list_some` needs to go on with a slice: how far it came, and that the record behind the slice is the same
-- from there on. Assumes nothing.
use mathlib.Core.Path.{◌≡◌, refl, sym, ap, ◌∙◌}
use mathlib.Core.Bool.{Bool, true, false, cond}
use mathlib.Core.List.{List, [], ◌∷◌, ◌++◌, append_assoc}
use Prim.Native.Nat.{ℕ, ◌-◌, ◌<◌, ◌≤◌}
use native.Mathlib.Numerals.{add-one}
use native.Mathlib.Omega.{arith}
use lib.Dec.{ltb}
use lib.ListN.{length, drop}
use borrow.Author.Tests.{le-ltb}
use Rattle.ucp_receiver.specs.declared.Record.{Record}
use Rattle.ucp_receiver.specs.declared.Counts.{Counts}
use Rattle.ucp_receiver.specs.Answers.{output_at_flag}
use Rattle.ucp_receiver.specs.Octet.{State, state_after, counts_after, verdict_due, state_of}
use Rattle.text_ucp_listing.specs.declared.Listed.{Listed}
use Rattle.text_ucp_listing.specs.Listing.{answer_line, body_room, longest_line}
use Rattle.text_ucp_listing.specs.Lists.{Lines, behind, no_lines, lines, Lists, behind_all, every_line}

record Onward (s : State) (c : Counts) (xs : List ℕ) (l : Lines) : Type 0 where
  within : l.taken ≤ length xs
  same : behind_all s c xs ≡ behind_all l.state l.counts (drop l.taken xs)
  text : every_line s c xs ≡ l.text ++ every_line l.state l.counts (drop l.taken xs)

one_more : (s : State) (c : Counts) (room : List ℕ) (x : ℕ) (xs : List ℕ) (l : Lines)
    → Onward (state_after s x) (counts_after c s x body_room) xs l → (full : Bool)
    → Onward s c (x ∷ xs) (cond full (no_lines s c room) (behind (answer_line (verdict_due s x body_room)) l))
unfolding behind_all every_line
one_more s c room x xs l on true = record { within = omega arith; same = refl; text = refl }
one_more s c room x xs l on false =
    let line = answer_line (verdict_due s x body_room) in
    let further = sym (add-one l.taken) in
    record {
      within = omega (arith, on.within);
      same = on.same ∙ ap (λ (n : ℕ). behind_all l.state l.counts (drop n (x ∷ xs))) further;
      text =
          ap (λ (lines : List ℕ). line ++ lines) on.text
          ∙ sym (append_assoc line l.text _)
          ∙ ap (λ (n : ℕ). line ++ l.text ++ every_line l.state l.counts (drop n (x ∷ xs))) further;
    }

onward : (s : State) (c : Counts) (room xs : List ℕ) (free : ℕ) → Onward s c xs (lines s c room xs free)
unfolding lines
onward s c room [] free = record { within = omega arith; same = refl; text = refl }
onward s c room (x ∷ xs) free =
    let due = verdict_due s x body_room in
    one_more s c room x xs _
    (onward (state_after s x) (counts_after c s x body_room) (output_at_flag due room) xs (free - length (answer_line due)))
    (ltb free longest_line)

moves : (s : State) (c : Counts) (room xs : List ℕ) (free : ℕ) → longest_line ≤ free → 0 < length xs → 0 < (lines s c room xs free).taken
unfolding lines
moves s c room [] free h k = absurd (omega arith)
moves s c room (x ∷ xs) free h k = rw (le-ltb free longest_line h) (omega arith)

module _ {receiver : Record} {store room line text : List ℕ} {given : Listed} {store_after room_after text_after : List ℕ}
    (l : Lists receiver store room line text given store_after room_after text_after) where
  pub lists_within : given.taken ≤ length line
  lists_within = omega (arith, l.taken, (onward (state_of receiver.rest store) receiver.counts room line (length text)).within)

  pub lists_moves : longest_line ≤ length text → 0 < length line → 0 < given.taken
  lists_moves h k = omega (arith, l.taken, moves (state_of receiver.rest store) receiver.counts room line (length text) h k)

  pub lists_onward : behind_all (state_of receiver.rest store) receiver.counts line
      ≡ behind_all (state_of given.receiver.rest store_after) given.receiver.counts (drop given.taken line)
  lists_onward =
      (onward (state_of receiver.rest store) receiver.counts room line (length text)).same
      ∙ (λ i. behind_all (sym l.state i) (sym l.account i) (drop (sym l.taken i) line))

  -- the text of this call, and then the lines of the octets that are left: so the texts of calls one after the other, until
  -- all octets are taken, are the lines of the whole slice
  pub lists_text : every_line (state_of receiver.rest store) receiver.counts line
      ≡ (lines (state_of receiver.rest store) receiver.counts room line (length text)).text
      ++ every_line (state_of given.receiver.rest store_after) given.receiver.counts (drop given.taken line)
  lists_text =
      (onward (state_of receiver.rest store) receiver.counts room line (length text)).text
      ∙ (λ i. (lines (state_of receiver.rest store) receiver.counts room line (length text)).text ++ every_line (sym l.state i) (sym l.account i) (drop (sym l.taken i) line))
