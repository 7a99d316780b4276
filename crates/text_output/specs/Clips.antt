-- Text put at a place of a lent text, so far as there is room. Assumes nothing.
use Rattle.std.specs.Prelude.{◌≡◌, List, ℕ, ◌+◌, min, length}
use Rattle.std.proofs.lemmas.List.Edits.{sets}

-- how many octets a text has: more than the longest line of either explainer
abbrev pub text_room : ℕ
text_room = 1536

-- octets are put at a place, those past the text's end are left out, and nothing else changes; next is the place behind
-- them, or the text's end. Where all of them fit this is `Puts` of the frame writer.
pub record Clips (before : List ℕ) (at : ℕ) (octets : List ℕ) (next : ℕ) (after : List ℕ) : Type 0 where
  -- as its type says
  pub room : length before ≡ text_room
  pub ends : next ≡ min (at + length octets) text_room
  pub leaves : after ≡ sets before at octets
