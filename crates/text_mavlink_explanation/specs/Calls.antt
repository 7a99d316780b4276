-- What a call of the explanation does. Assumes nothing.
use Rattle.std.specs.Prelude.{◌≡◌, List, ℕ, ◌≤◌, length, Option}
use Rattle.text_output.specs.Clips.{text_room, Clips}
use Rattle.text_output.specs.declared.page.Page.{Page}
use Rattle.mavlink_messages.specs.Messages.{read_due}
use Rattle.text_mavlink_explanation.specs.Explanation.{frame_line, used_answer}

-- a line stands whole at the start of a page, and nothing else changes
pub record WholeLine (page : Page) (line : List ℕ) (after : Page) : Type 0 where
  pub puts : Clips page.room 0 line after.end after.room
  pub all : after.end ≡ length line
  pub within : after.end ≤ text_room

-- one call, whole: what the reader of messages says of the input, and its line
pub record ExplainsFrame (input : List ℕ) (page : Page) (given : Option ℕ) (after : Page) : Type 0 where
  pub used : given ≡ used_answer (read_due input)
  pub line : WholeLine page (frame_line (read_due input)) after
