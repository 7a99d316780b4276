-- The listing of a whole input, by its history: a line for each answer, then the account (document 01, "Frames to try", the line
-- lister). Nothing here speaks of a record or a step. Assumes nothing.
use Rattle.std.specs.Prelude.{◌≡◌, List, [], ◌∷◌, ◌++◌, map, ℕ}
use Rattle.ucp_history.specs.History.{Call, answer, account}
use Rattle.ucp_receiver.specs.Account.{zero_counts}
use Rattle.ucp_receiver.specs.Octet.{fresh}
use Rattle.text_ucp_listing.specs.Listing.{body_room, answer_line, closing_line}
use Rattle.text_ucp_listing.specs.Lists.{every_line, behind_all}
use Rattle.thm_ucp_receiver.specs.Promises.{account_counts}

-- the lister lends 436 octets of room to every call
abbrev pub listed_call : ℕ → Call
listed_call x = record { octet = x; room = body_room }

-- a line for each answer that these octets bring, behind a history
unfoldable pub answer_lines : List Call → List ℕ → List ℕ
answer_lines before [] = []
answer_lines before (x ∷ xs) = answer_line (answer before (listed_call x)) ++ answer_lines (before ++ (listed_call x ∷ [])) xs

-- the whole output
abbrev pub listing : List ℕ → List ℕ
listing input = answer_lines [] input ++ closing_line (account_counts (account (map listed_call input)))

-- the text of the receiver's steps from a fresh record on, which the contracts speak of, is this
abbrev pub StepsAreListing : Type 0
StepsAreListing = (input : List ℕ) → every_line fresh zero_counts input ++ closing_line (behind_all fresh zero_counts input).counts ≡ listing input
