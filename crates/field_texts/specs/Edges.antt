-- Octets on both sides of the digits and of the capitals, and spaces inside and at the end. Assumes nothing.
use Rattle.std.specs.Prelude.{◌≡◌, true, false, [], ◌∷◌}
use Rattle.field_texts.specs.Text.{is_letter_or_digit, is_padded, is_spaced}

pub record TextEdges : Type 0 where
  pub before_0 : is_letter_or_digit 0x2F ≡ false
  pub digit_0 : is_letter_or_digit 0x30 ≡ true
  pub digit_9 : is_letter_or_digit 0x39 ≡ true
  pub behind_9 : is_letter_or_digit 0x3A ≡ false
  pub before_a : is_letter_or_digit 0x40 ≡ false
  pub capital_a : is_letter_or_digit 0x41 ≡ true
  pub capital_z : is_letter_or_digit 0x5A ≡ true
  pub behind_z : is_letter_or_digit 0x5B ≡ false
  pub small_a : is_letter_or_digit 0x61 ≡ false
  pub small_z : is_letter_or_digit 0x7A ≡ false
  pub space_inside_padded : is_padded (0x41 ∷ 0x20 ∷ 0x41 ∷ []) ≡ false
  pub space_inside_spaced : is_spaced (0x41 ∷ 0x20 ∷ 0x41 ∷ []) ≡ true
  pub space_first_padded : is_padded (0x20 ∷ 0x41 ∷ []) ≡ false
  pub space_last_padded : is_padded (0x41 ∷ 0x20 ∷ []) ≡ true
  pub spaces_padded : is_padded (0x20 ∷ 0x20 ∷ []) ≡ true
  pub spaces_spaced : is_spaced (0x20 ∷ 0x20 ∷ []) ≡ true
  pub small_padded : is_padded (0x61 ∷ []) ≡ false
  pub small_spaced : is_spaced (0x61 ∷ []) ≡ false
