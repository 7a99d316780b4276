-- The numbers at a place of a list of octets, as the functions of this crate read them. Assumes nothing.
use Rattle.std.specs.Prelude.{List, ℕ, ◌+◌, ◌*◌, get_or}

-- most significant octet first
abbrev pub big16 : List ℕ → ℕ → ℕ
big16 xs at = get_or xs at 0 * 256 + get_or xs (at + 1) 0

abbrev pub big24 : List ℕ → ℕ → ℕ
big24 xs at = get_or xs at 0 * 65536 + (get_or xs (at + 1) 0 * 256 + get_or xs (at + 2) 0)

abbrev pub big32 : List ℕ → ℕ → ℕ
big32 xs at =
    get_or xs at 0 * 16777216 + (get_or xs (at + 1) 0 * 65536 + (get_or xs (at + 2) 0 * 256 + get_or xs (at + 3) 0))

-- least significant octet first
abbrev pub little16 : List ℕ → ℕ → ℕ
little16 xs at = get_or xs (at + 1) 0 * 256 + get_or xs at 0

abbrev pub little24 : List ℕ → ℕ → ℕ
little24 xs at = get_or xs (at + 2) 0 * 65536 + (get_or xs (at + 1) 0 * 256 + get_or xs at 0)

abbrev pub little32 : List ℕ → ℕ → ℕ
little32 xs at =
    get_or xs (at + 3) 0 * 16777216 + (get_or xs (at + 2) 0 * 65536 + (get_or xs (at + 1) 0 * 256 + get_or xs at 0))
