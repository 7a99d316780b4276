-- An octet of a padded text, by itself and the next. Assumes nothing.
use Rattle.std.specs.Prelude.{Bool, ◌&&◌, ◌||◌, ℕ}
use Rattle.field_texts.specs.Text.{is_letter_or_digit, is_space}

-- a letter or a digit, or a space before a space
unfoldable pub goes_on : ℕ → ℕ → Bool
goes_on c next = is_letter_or_digit c || is_space c && is_space next
