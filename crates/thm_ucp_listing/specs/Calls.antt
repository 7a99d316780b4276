-- Whole lists of calls of `text_ucp_listing::list_some`, the first from a fresh record and each other with the record and the store as
-- the last one left them, and then the closing line of the counts that the last one left: what they put is the listing of the octets
-- that they took, however these were cut into slices and wherever a text was full. So a caller that offers again what a call did not
-- take lists its whole input. Over the contracts of `list_some` and of the closing line. Assumes nothing.
use Rattle.std.specs.Prelude.{◌≡◌, List, [], ◌∷◌, ◌++◌, ℕ, ◌≤◌, length, take}
use Rattle.ucp_receiver.specs.declared.Counts.{Counts}
use Rattle.ucp_receiver.specs.declared.Record.{Record}
use Rattle.ucp_receiver.specs.Account.{zero_counts}
use Rattle.ucp_receiver.specs.Octet.{no_octets, fresh_record}
use Rattle.text_ucp_listing.specs.declared.Listed.{Listed}
use Rattle.text_ucp_listing.specs.Listing.{longest_closing}
use Rattle.text_ucp_listing.specs.Lists.{Lists, PutsClosing}
use Rattle.thm_ucp_receiver.specs.Slice.{gathered}
use Rattle.thm_ucp_listing.specs.Input.{listing}

-- one call: the room, the slice and the text as at entry; what is given back, and what was lent as at return
pub record ListCall : Type 0 where
  pub room : List ℕ
  pub line : List ℕ
  pub text : List ℕ
  pub given : Listed
  pub store_after : List ℕ
  pub room_after : List ℕ
  pub text_after : List ℕ

-- each call meets the contract, the first from this record and the others from what the one before gave back
abbrev pub ListRuns : Record → List ℕ → List ListCall → Type 0
ListRuns receiver store [] = Unit
ListRuns receiver store (c ∷ cs) =
    Lists receiver store c.room c.line c.text c.given c.store_after c.room_after c.text_after
    × ListRuns c.given.receiver c.store_after cs

-- the octets that a call took, and the text that it put
abbrev pub list_taken : ListCall → List ℕ
list_taken c = take c.given.taken c.line

abbrev pub list_text : ListCall → List ℕ
list_text c = take c.given.written c.text_after

-- the counts behind the last of some calls
abbrev pub counts_last : Counts → List ListCall → Counts
counts_last counts [] = counts
counts_last counts (c ∷ cs) = counts_last c.given.receiver.counts cs

-- the texts one after the other, and then the closing line in a text that has room for it, are the listing of the octets taken
abbrev pub CallsAreListing : Type 0
CallsAreListing =
    (calls : List ListCall) → ListRuns fresh_record no_octets calls
    → (text : List ℕ) (next : ℕ) (after : List ℕ) → longest_closing ≤ length text
    → PutsClosing text 0 (counts_last zero_counts calls) next after
    → gathered list_text calls ++ take next after ≡ listing (gathered list_taken calls)
