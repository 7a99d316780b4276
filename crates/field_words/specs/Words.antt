-- The octets of a number. Assumes nothing.
use Rattle.std.specs.Prelude.{List, [], ◌∷◌, ℕ, zero, suc, ◌+◌, ◌*◌, ◌/◌, ◌%◌}

-- the n lowest octets of a number, least significant first
unfoldable pub octets_up : ℕ → ℕ → List ℕ
octets_up zero number = []
octets_up (suc n) number = number % 256 ∷ octets_up n (number / 256)

-- the n lowest octets of a number, most significant first, before others
unfoldable pub octets_down : ℕ → ℕ → List ℕ → List ℕ
octets_down zero number others = others
octets_down (suc n) number others = octets_down n (number / 256) (number % 256 ∷ others)

-- eight digits to the base 256, the first least significant
abbrev pub eight : ℕ → ℕ → ℕ → ℕ → ℕ → ℕ → ℕ → ℕ → ℕ
eight a b c d e f g h =
    a + (b * 256 + (c * 65536 + (d * 16777216 + (e * 4294967296 + (f * 1099511627776 + (g * 281474976710656 + h * 72057594037927936))))))
