-- What a block of the input leaves of the receiver's record, the closing line, and what goes out. Assumes nothing.
use Rattle.std.specs.Prelude.{◌≡◌, Bool, true, false, List, ℕ, ◌%◌, ◌^◌, ◌<◌, ◌≤◌, length, take, drop, Result, Ok, Err}
use Rattle.ucp_receiver.specs.declared.Counts.{Counts}
use Rattle.ucp_receiver.specs.declared.Record.{Record}
use Rattle.ucp_receiver.specs.Octet.{State, state_of}
use Rattle.text_ucp_listing.specs.Lists.{RecordBehind, behind_all, PutsClosing}
use Rattle.io_streams.specs.Turns.{BlockTurns}
use Rattle.io_streams.specs.declared.Input.{Input}
use Rattle.io_streams.specs.declared.Input.TheVariants.{More, Ended, Failed}
use Rattle.io_streams.specs.declared.StreamError.{StreamError}
use Rattle.io_streams.specs.declared.Turn.{Turn}
use Rattle.io_ucp.specs.declared.BlockDone.{BlockDone}
use Rattle.io_ucp.specs.declared.TurnDone.{TurnDone}
use Rattle.io_ucp.specs.declared.Run.{Run}

-- a record behind some of a block's octets: those that are left lead to the record behind the block
pub record BehindSome (s : State) (c : Counts) (b : RecordBehind) (block : List ℕ) : Type 0 where
  pub taken : ℕ
  pub within : taken ≤ length block
  pub leads : b ≡ behind_all s c (drop taken block)

-- the input goes on: the record is the one behind the whole block. It does not end in a block. Where a write failed, behind some of it
abbrev pub Leaves : Input → State → Counts → RecordBehind → List ℕ → Type 0
Leaves More s c b block = (s ≡ b.state) × (c ≡ b.counts)
Leaves Ended s c b block = ⊥
Leaves Failed s c b block = BehindSome s c b block

-- the closing line stands at the start of the text, up to this place, as `text_ucp_listing::put_closing` puts it; it is written where
-- there was no room for it, and so nothing to write
pub record Closed (counts : Counts) (before : List ℕ) (written : Bool) (after : List ℕ) : Type 0 where
  pub next : ℕ
  pub line : PutsClosing before 0 counts next after
  pub tells : next ≡ 0 → written ≡ true

-- how a program closes, by how its reading ended
abbrev pub Ends : Input → Counts → List ℕ → Bool → List ℕ → Type 0
Ends More counts before written after = (written ≡ false) × (after ≡ before)
Ends Ended counts before written after = Closed counts before written after
Ends Failed counts before written after = (written ≡ false) × (after ≡ before)

-- ---- what goes out

-- a block is done where all of its text went out
abbrev pub block_done : Record → Result ℕ StreamError → BlockDone
block_done receiver (Ok n) = record { progress = record { receiver = receiver; input = More }; written = n }
block_done receiver (Err e) = record { progress = record { receiver = receiver; input = Failed }; written = 0 }

-- the input goes on: as many octets went out as these lines have, modulo 2^64. A write fails only where there are lines to write
abbrev pub WritesLines : Input → ℕ → List ℕ → Type 0
WritesLines More written lines = written ≡ length lines % 2 ^ 64
WritesLines Ended written lines = ⊥
WritesLines Failed written lines = 0 < length lines

-- ---- turns

-- behind a block its record is handed on, and the turn that follows is by what the block came to
pub record Follows (done : BlockDone) (left block : ℕ) (given : TurnDone) : Type 0 where
  pub receiver : given.receiver ≡ done.progress.receiver
  pub follows : BlockTurns done.progress.input left block 0 given.turn
  pub written : given.written ≡ done.written

-- the lines of some octets, from a record on
abbrev pub LinesOf : Type 0
LinesOf = State → Counts → List ℕ → List ℕ

-- a turn, whole: its octets of the block are worked on from the record and the store as they were, and the turn that follows is by
-- what that came to
pub record WorksTurn (every : LinesOf) (receiver : Record) (store block : List ℕ) (turn : Turn) (given : TurnDone) (store_after : List ℕ) : Type 0 where
  pub input : Input
  pub leaves : Leaves input (state_of given.receiver.rest store_after) given.receiver.counts (behind_all (state_of receiver.rest store) receiver.counts (take turn.octets block)) (take turn.octets block)
  pub writes : WritesLines input given.written (every (state_of receiver.rest store) receiver.counts (take turn.octets block))
  pub follows : BlockTurns input turn.left (length block) 0 given.turn

-- ---- runs

-- one line, in whatever blocks it came, was worked on from a record: how many octets it has, and its text, both modulo 2^64, and
-- the record behind it
pub record Passed (every : LinesOf) (s : State) (c : Counts) (octets written : ℕ) (b : RecordBehind) : Type 0 where
  pub line : List ℕ
  pub long : octets ≡ length line % 2 ^ 64
  pub texts : written ≡ length (every s c line) % 2 ^ 64
  pub ends : b ≡ behind_all s c line

-- and the closing line in the text is of the record behind all of it
pub record RunsWhole (every : LinesOf) (s : State) (c : Counts) (given : Run) (after : List ℕ) : Type 0 where
  pub last : RecordBehind
  pub passed : Passed every s c given.octets given.written last
  pub before : List ℕ
  pub closes : Closed last.counts before true after

-- where a program says that its input came to its end and all was written
abbrev pub RunsLine : LinesOf → State → Counts → Run → List ℕ → Type 0
RunsLine every s c given after = given.whole ≡ true → RunsWhole every s c given after
