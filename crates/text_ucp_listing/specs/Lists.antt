-- What the calls of the listing do. Assumes nothing.
use Rattle.std.specs.Prelude.{◌≡◌, Bool, true, false, cond, List, [], ◌∷◌, ◌++◌, ℕ, ◌+◌, ◌-◌, ◌≤◌, ltb, leb, length}
use Rattle.output_writing.specs.Puts.{Puts}
use Rattle.ucp_receiver.specs.declared.Record.{Record}
use Rattle.ucp_receiver.specs.declared.Counts.{Counts}
use Rattle.ucp_receiver.specs.Answers.{output_at_flag}
use Rattle.ucp_receiver.specs.Octet.{State, state_of, state_after, verdict_due, counts_after}
use Rattle.text_ucp_listing.specs.Steps.{PutsLine}
use Rattle.text_ucp_listing.specs.declared.Listed.{Listed}
use Rattle.text_ucp_listing.specs.Listing.{answer_line, body_room, longest_line, closing_line, longest_closing}

-- ---- the closing line

-- where there is room for the longest closing line the line is put; else nothing changes, and the same place comes back
abbrev pub PutsClosingIf : Bool → List ℕ → ℕ → Counts → ℕ → List ℕ → Type 0
PutsClosingIf true before at counts next after = PutsLine before at (closing_line counts) next after
PutsClosingIf false before at counts next after = (next ≡ at) × (after ≡ before)

abbrev pub PutsClosing : List ℕ → ℕ → Counts → ℕ → List ℕ → Type 0
PutsClosing before at counts next after = PutsClosingIf (leb (at + longest_closing) (length before)) before at counts next after

-- ---- the lines of a slice of the line

-- the record and the room as they then are, how many octets were taken, and the text
pub record Lines : Type 0 where
  pub state : State
  pub counts : Counts
  pub room : List ℕ
  pub taken : ℕ
  pub text : List ℕ

-- one octet more was taken before all this, and brought a line
abbrev pub behind : List ℕ → Lines → Lines
behind line l =
    record { state = l.state; counts = l.counts; room = l.room; taken = l.taken + 1; text = line ++ l.text }

abbrev pub no_lines : State → Counts → List ℕ → Lines
no_lines s c room = record { state = s; counts = c; room = room; taken = 0; text = [] }

-- octet by octet, up to the slice's end, or to where the longest line does not fit the text that is free
unfoldable pub lines : State → Counts → List ℕ → List ℕ → ℕ → Lines
lines s c room [] free = no_lines s c room
lines s c room (x ∷ xs) free =
    let due = verdict_due s x body_room in
    let rest = lines (state_after s x) (counts_after c s x body_room) (output_at_flag due room) xs (free - length (answer_line due)) in
    let more = behind (answer_line due) rest in
    cond (ltb free longest_line) (no_lines s c room) more

-- one call, whole: the record, the room, the slice and the text as at entry; what is given back, and what was lent as at return
pub record Lists (receiver : Record) (store room line text : List ℕ)
    (given : Listed) (store_after room_after text_after : List ℕ) : Type 0 where
  pub state : state_of given.receiver.rest store_after ≡ (lines (state_of receiver.rest store) receiver.counts room line (length text)).state
  pub account : given.receiver.counts ≡ (lines (state_of receiver.rest store) receiver.counts room line (length text)).counts
  pub holds : room_after ≡ (lines (state_of receiver.rest store) receiver.counts room line (length text)).room
  pub taken : given.taken ≡ (lines (state_of receiver.rest store) receiver.counts room line (length text)).taken
  pub puts : Puts text 0 (lines (state_of receiver.rest store) receiver.counts room line (length text)).text given.written text_after
  pub within : given.written ≤ length text

-- ---- whole slices

-- the record behind all octets of a slice
pub record RecordBehind : Type 0 where
  pub state : State
  pub counts : Counts

unfoldable pub behind_all : State → Counts → List ℕ → RecordBehind
behind_all s c [] = record { state = s; counts = c }
behind_all s c (x ∷ xs) = behind_all (state_after s x) (counts_after c s x body_room) xs

-- the line of every answer that the octets of a slice bring
unfoldable pub every_line : State → Counts → List ℕ → List ℕ
every_line s c [] = []
every_line s c (x ∷ xs) = answer_line (verdict_due s x body_room) ++ every_line (state_after s x) (counts_after c s x body_room) xs
