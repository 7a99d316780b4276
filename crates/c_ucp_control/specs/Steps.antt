-- What the parts of the reader and of the writer do. Assumes nothing.
use Rattle.std.specs.Prelude.{List, [], ◌∷◌, ℕ, ◌+◌, ◌*◌, ◌/◌, ◌%◌}
use Rattle.field_layout.specs.Layout.{bit_of}
use Rattle.c_lent.specs.Structs.{is_yes}

-- offsets 0 to 7 of the struct, from the octet at 2 of the body: its bits from the highest on, and padding
abbrev pub state_fields : ℕ → List ℕ
state_fields s =
    s / 128
    ∷ s % 128 / 64
    ∷ s % 128 % 64 / 32
    ∷ s % 128 % 64 % 32 / 16
    ∷ s % 128 % 64 % 32 % 16 / 8
    ∷ s % 128 % 64 % 32 % 16 % 8 / 2
    ∷ s % 128 % 64 % 32 % 16 % 8 % 2
    ∷ 0
    ∷ []

-- 128 in each octet that is a yes, the first octet least significant
abbrev pub marks : List ℕ → ℕ
marks [] = 0
marks (x ∷ xs) = bit_of (is_yes x) * 128 + marks xs * 256
