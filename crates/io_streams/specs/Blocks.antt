-- What is read and written, and cleared memory. Assumes nothing.
use Rattle.std.specs.Prelude.{◌≡◌, ℕ, ◌<◌, ◌≤◌, List, length, replicate, Result, Ok, Err, IsOk, Option, Some, None}
use Rattle.io_streams.specs.declared.StreamError.{StreamError}

-- as many octets as before, and all of them 0
abbrev pub Zeroed : List ℕ → List ℕ → Type 0
Zeroed before after = after ≡ replicate (length before) 0

-- where there is nothing to write, all is written: whether octets reached the output no contract can say
abbrev pub WrittenIfEmpty : ℕ → Result Unit StreamError → Type 0
WrittenIfEmpty octets written = octets ≡ 0 → IsOk written

-- octets that were read: some, and within the block
abbrev pub WithinBlock : Result (Option ℕ) StreamError → ℕ → Type 0
WithinBlock (Ok (Some n)) block = (n ≤ block) × (0 < n)
WithinBlock (Ok None) block = Unit {0}
WithinBlock (Err e) block = Unit {0}

-- of so many octets some went out, or it failed
abbrev pub WritesSome : ℕ → Result ℕ StreamError → Type 0
WritesSome octets (Ok n) = (0 < n) × (n ≤ octets)
WritesSome octets (Err e) = Unit {0}

-- so many octets were to be written: all of them went out, or there were some and it failed
abbrev pub WritesFirst : ℕ → Result ℕ StreamError → Type 0
WritesFirst octets (Ok n) = n ≡ octets
WritesFirst octets (Err e) = 0 < octets
