-- Octets and texts as the examples write them. Assumes nothing.
use Rattle.std.specs.Prelude.{List, [], ◌∷◌, ◌++◌, ℕ, ◌+◌, take, drop}
use Rattle.field_layout.specs.declared.Text.{Text}

-- the same octets but for one
abbrev pub with_octet : ℕ → ℕ → List ℕ → List ℕ
with_octet place octet octets = take place octets ++ (octet ∷ drop (place + 1) octets)

abbrev pub letters : ℕ → ℕ → ℕ → ℕ → ℕ → ℕ → ℕ → ℕ → Text
letters a b c d e f g h = record { c0 = a; c1 = b; c2 = c; c3 = d; c4 = e; c5 = f; c6 = g; c7 = h }
