-- The two rules for a text in ASCII (document 01, messages 45, 117 and 201): each is named once, here. Assumes nothing.
use Rattle.std.specs.Prelude.{Bool, true, ◌&&◌, ◌||◌, List, [], ◌∷◌, ℕ, leb, eqb}

-- 0 to 9, A to Z
abbrev pub is_letter_or_digit : ℕ → Bool
is_letter_or_digit c = leb 0x30 c && leb c 0x39 || leb 0x41 c && leb c 0x5A

abbrev pub is_space : ℕ → Bool
is_space c = eqb c 0x20

unfoldable pub all_spaces : List ℕ → Bool
all_spaces [] = true
all_spaces (c ∷ cs) = is_space c && all_spaces cs

-- 0 to 9, A to Z, and spaces only at the end; all spaces are allowed
unfoldable pub is_padded : List ℕ → Bool
is_padded [] = true
is_padded (c ∷ cs) = is_letter_or_digit c && is_padded cs || is_space c && all_spaces cs

-- 0 to 9, A to Z, and spaces anywhere
unfoldable pub is_spaced : List ℕ → Bool
is_spaced [] = true
is_spaced (c ∷ cs) = (is_letter_or_digit c || is_space c) && is_spaced cs
