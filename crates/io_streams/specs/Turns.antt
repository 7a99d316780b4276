-- The turns of a program that works on its input block by block. Assumes nothing.
use Rattle.std.specs.Prelude.{◌≡◌, ℕ, ◌+◌, ◌-◌, ◌<◌, ◌≤◌, Bool, true, false, cond, List, take, ◌==◌, Result, Ok, Err, Option, Some, None}
use Rattle.io_streams.specs.declared.StreamError.{StreamError}
use Rattle.io_streams.specs.declared.Input.{Input}
use Rattle.io_streams.specs.declared.Input.TheVariants.{More, Ended, Failed}
use Rattle.io_streams.specs.declared.Turn.{Turn}

-- octets that were read behind those held: some, and within the block
abbrev pub Behind : Result (Option ℕ) StreamError → ℕ → ℕ → Type 0
Behind (Ok (Some n)) held block = (held + n ≤ block) × (0 < n)
Behind (Ok None) held block = Unit {0}
Behind (Err e) held block = Unit {0}

-- the octets held at the start of the block stay
abbrev pub KeepsHeld : ℕ → List ℕ → List ℕ → Type 0
KeepsHeld held before after = take held after ≡ take held before

-- nothing more is to be done
abbrev pub over : Input → Turn
over input = record { octets = 0; input = input; left = 0 }

-- the input has ended: what is held is worked on, where it is anything
abbrev pub AtEnd : ℕ → ℕ → Turn → Type 0
AtEnd held left t = t ≡ cond (held == 0) (over Ended) (record { octets = held; input = Ended; left = left - 1 })

-- what a read behind the octets held gives, where so many turns are left: by what the turn says of the input
abbrev pub ReadsBlock : Input → ℕ → ℕ → ℕ → Turn → Type 0
ReadsBlock More left block held t = (held < t.octets) × (t.octets ≤ block) × (t.left < left)
ReadsBlock Ended left block held t = (held ≤ block) × (0 < left) × AtEnd held left t
ReadsBlock Failed left block held t = t ≡ over Failed

-- what follows a turn, by what its work came to
abbrev pub BlockTurns : Input → ℕ → ℕ → ℕ → Turn → Type 0
BlockTurns More left block held t = ReadsBlock t.input left block held t
BlockTurns Ended left block held t = t ≡ over Ended
BlockTurns Failed left block held t = t ≡ over Failed

abbrev pub has_ended : Input → Bool
has_ended More = false
has_ended Ended = true
has_ended Failed = false

-- what is claimed of a run that no read and no write has failed
abbrev pub UnlessFailed : Input → Type 0 → Type 0
UnlessFailed More claim = claim
UnlessFailed Ended claim = claim
UnlessFailed Failed claim = Unit {0}
