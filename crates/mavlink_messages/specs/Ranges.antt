-- The ranges of the fields (document 01, "MAVLink kinds"). What a rule does not name is carried. Assumes nothing.
use Rattle.std.specs.Prelude.{Bool, ◌&&◌, ◌||◌, ℕ, eqb, leb, ltb}
use Rattle.field_codes.specs.Codes.{is_squawk, is_emitter, is_size_code}
use Rattle.field_texts.specs.Text.{is_spaced}
use Rattle.field_layout.specs.declared.Text.{Text}
use Rattle.field_layout.specs.Layout.{text_octets}

-- 201: an address of 24 bits, a callsign of eight of A-Z, 0-9 and space and then 00, an emitter, a size code, a lateral offset of
-- 0 to 7 and a longitudinal one of 0 to 31
unfoldable pub static_fits : ℕ → Text → ℕ → ℕ → ℕ → ℕ → ℕ → Bool
static_fits address callsign capability emitter size lateral longitudinal =
    ltb address 0x1000000
    && is_spaced (text_octets callsign)
    && eqb capability 0
    && is_emitter emitter
    && is_size_code size
    && leb lateral 7
    && leb longitudinal 31

-- 202: a squawk, and a fix of 0 to 5
unfoldable pub dynamic_fits : ℕ → ℕ → Bool
dynamic_fits squawk fix = is_squawk squawk && leb fix 5

-- 246: a squawk, or 65535 for none
unfoldable pub traffic_fits : ℕ → Bool
traffic_fits squawk = is_squawk squawk || eqb squawk 65535
