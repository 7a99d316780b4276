-- What a call of the explanation does. Assumes nothing.
use Rattle.std.specs.Prelude.{◌≡◌, List, ℕ, ◌≤◌, length}
use Rattle.text_output.specs.Clips.{text_room}
use Rattle.output_writing.specs.Puts.{Puts}
use Rattle.ucp_receiver.specs.declared.Record.{Record}
use Rattle.ucp_receiver.specs.Octet.{state_of}
use Rattle.ucp_receiver.specs.Slice.{Takes, slice_run}
use Rattle.text_ucp_listing.specs.Listing.{body_room}
use Rattle.ucp_receiver.specs.declared.Taken.{Taken}
use Rattle.text_output.specs.declared.page.Page.{Page}
use Rattle.text_ucp_explanation.specs.Explanation.{explanation}

-- one call, whole: the receiver's own call with the slice, and the line of its answer at the start of the page
pub record ExplainsAnswer (receiver : Record) (store room line : List ℕ) (page : Page)
    (given : Taken) (store_after room_after : List ℕ) (after : Page) : Type 0 where
  -- as its type says
  pub long : length room ≡ body_room
  pub takes : Takes receiver store line room given store_after room_after
  pub puts : Puts page.room 0 (explanation (slice_run (state_of receiver.rest store) receiver.counts line body_room).verdict) after.end after.room
  pub within : after.end ≤ text_room
