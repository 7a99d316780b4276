-- Text put behind the text of a page, so far as there is room. Assumes nothing.
use Rattle.std.specs.Prelude.{◌≡◌, List, ℕ, replicate}
use Rattle.text_output.specs.declared.page.Page.{Page}
use Rattle.text_output.specs.Clips.{text_room, Clips}

-- octets are put behind the text, those past the room's end are left out, and nothing else changes
abbrev pub Appends : Page → List ℕ → Page → Type 0
Appends before octets after = Clips before.room before.end octets after.end after.room

-- a page of zeros, with no text
abbrev pub Clears : Page → Type 0
Clears page = (page.room ≡ replicate text_room 0) × (page.end ≡ 0)

-- the text begins anew
abbrev pub Restarts : Page → Page → Type 0
Restarts before after = (after.room ≡ before.room) × (after.end ≡ 0)
