-- Lines that wait in a buffer until many go out at once. Assumes nothing.
use Rattle.std.specs.Prelude.{◌≡◌, ℕ, ◌+◌, ◌-◌, ◌%◌, ◌^◌, ◌<◌, ◌≤◌, List, length, Result, Ok, Err}
use Rattle.std.proofs.Math.Seq.{paste}
use Rattle.io_streams.specs.declared.StreamError.{StreamError}
use Rattle.io_streams.specs.declared.Waiting.{Waiting}

-- a line is put behind the octets that wait; where both do not fit, those that wait go out, and it is put in their place
pub record GathersLine (before : List ℕ) (waiting : ℕ) (line : List ℕ) (next out : ℕ) (after : List ℕ) : Type 0 where
  pub fits : waiting + length line ≤ length before → out ≡ 0
  pub full : length before < waiting + length line → out ≡ waiting
  pub ends : out + next ≡ waiting + length line
  pub leaves : after ≡ paste before (waiting - out) line (length line)

-- writing fails only where both do not fit
abbrev pub Gathers : List ℕ → ℕ → List ℕ → Result Waiting StreamError → List ℕ → Type 0
Gathers before waiting line (Ok then) after = GathersLine before waiting line then.octets then.written after
Gathers before waiting line (Err e) after = (length before < waiting + length line) × (after ≡ before)

-- how many octets went out, modulo 2^64, once those that wait went out behind those before; or there were some and it failed
abbrev pub WritesWaiting : ℕ → ℕ → Result ℕ StreamError → Type 0
WritesWaiting written waiting (Ok n) = n ≡ (written + waiting) % 2 ^ 64
WritesWaiting written waiting (Err e) = 0 < waiting
