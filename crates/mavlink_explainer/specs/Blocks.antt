-- What a block of the input leaves, and the closing line. Assumes nothing.
use Rattle.std.specs.Prelude.{◌≡◌, ℕ, ◌+◌, ◌-◌, ◌%◌, ◌^◌, ◌<◌, ◌≤◌, Bool, true, false, cond, List, [], ◌++◌, length, take, drop, Result, Ok, Err}
use Rattle.io_streams.specs.declared.Input.{Input}
use Rattle.io_streams.specs.declared.Input.TheVariants.{More, Ended, Failed}
use Rattle.io_streams.specs.declared.StreamError.{StreamError}
use Rattle.io_streams.specs.declared.Turn.{Turn}
use Rattle.io_streams.specs.Turns.{ReadsBlock, BlockTurns, has_ended, UnlessFailed}
use Rattle.mavlink_explainer.specs.declared.Progress.{Progress}
use Rattle.mavlink_explainer.specs.declared.TurnDone.{TurnDone}
use Rattle.mavlink_messages.specs.Messages.{read_due}
use Rattle.text_mavlink_explanation.specs.Explanation.{frame_line, used_by, is_refused, frames_line}
use Rattle.text_output.specs.declared.page.Page.{Page}
use Rattle.text_mavlink_explanation.specs.Calls.{WholeLine}
use Rattle.text_mavlink_explanation.specs.Decided.{frame_room}

-- where the input goes on, fewer octets are carried over than decide a frame
abbrev pub Carries : Input → ℕ → Type 0
Carries More left = left < frame_room
Carries Ended left = Unit {0}
Carries Failed left = Unit {0}

-- octets that are left of a block are within it
pub record FramesLeave (input : Input) (left block : ℕ) : Type 0 where
  pub carries : Carries input left
  pub within : left ≤ block

-- ---- the frames of a block

-- frames one after the other, each decided where at least so many octets are there: how many there are, how many octets are
-- left behind them, whether what stands there is refused, and the lines of all
pub data Walks : ℕ → List ℕ → ℕ → ℕ → Bool → List ℕ → Type 0 where
  few : {least : ℕ} {s : List ℕ} {left : ℕ} → left ≡ length s → left < least → Walks least s 0 left false []
  stops : {least : ℕ} {s : List ℕ} {left : ℕ} → left ≡ length s → least ≤ left → is_refused (read_due s) ≡ true
      → Walks least s 0 left true (frame_line (read_due s))
  onward : {least : ℕ} {s : List ℕ} {n left : ℕ} {refused : Bool} {lines : List ℕ} → least ≤ length s → is_refused (read_due s) ≡ false
      → Walks least (drop (used_by (read_due s)) s) n left refused lines → Walks least s (n + 1) left refused (frame_line (read_due s) ++ lines)

-- so many frames more, of so many octets, and so many octets of text; the counts run round
abbrev pub explains : ℕ → ℕ → ℕ → ℕ → ℕ → Input → ℕ → Progress
explains frames bytes count used left input written =
    record { frames = (frames + count) % 2 ^ 64; bytes = (bytes + used) % 2 ^ 64; left = left; input = input; written = written }

-- where a write fails, the input goes no further, and nothing is said of what went out
abbrev pub input_of : Result ℕ StreamError → Input → Input
input_of (Ok n) input = input
input_of (Err e) input = Failed

abbrev pub octets_out : Result ℕ StreamError → ℕ
octets_out (Ok n) = n
octets_out (Err e) = 0

-- a refused frame ends the input, and so does its end
abbrev pub input_after : Bool → Bool → Input
input_after last refused = cond refused Ended (cond last Ended More)

-- what the frames of a block leave, where all of their lines were written: as many octets went out as these have
pub record Explored (last : Bool) (block : List ℕ) (frames bytes : ℕ) (given : Progress) : Type 0 where
  pub count : ℕ
  pub refused : Bool
  pub lines : List ℕ
  pub walks : Walks (cond last 1 frame_room) block count given.left refused lines
  pub counts : given ≡ explains frames bytes count (length block - given.left) given.left (input_after last refused) (length lines % 2 ^ 64)

pub record Explores (last : Bool) (block : List ℕ) (frames bytes : ℕ) (given : Progress) : Type 0 where
  pub leaves : FramesLeave given.input given.left (length block)
  pub explored : UnlessFailed given.input (Explored last block frames bytes given)

-- ---- a turn

-- the frames in a turn's octets of the block are explained; the octets behind them stand at the block's start then, and the turn that
-- follows reads on behind these, by what the block came to
pub record WorksFrames (frames bytes : ℕ) (before : List ℕ) (turn : Turn) (given : TurnDone) (after : List ℕ) : Type 0 where
  pub explores : Explores (has_ended turn.input) (take turn.octets before) frames bytes given.progress
  pub carried : take given.progress.left after ≡ drop (turn.octets - given.progress.left) (take turn.octets before)
  pub follows : BlockTurns given.progress.input turn.left (length before) given.progress.left given.turn

-- ---- the closing line

-- the closing line stands at the start of the page
abbrev pub FramesClosed : ℕ → ℕ → Page → Page → Type 0
FramesClosed frames bytes before after = WholeLine before (frames_line frames bytes) after

-- ---- a run

-- turns one after the other, from a first read and from nothing explained on: the counts, the block and the turn that they come to
pub data FramesRun : ℕ → ℕ → List ℕ → Turn → Type 0 where
  first : {block : List ℕ} {turn : Turn} → ReadsBlock turn.input 18446744073709551615 (length block) 0 turn → FramesRun 0 0 block turn
  later : {frames bytes : ℕ} {before : List ℕ} {turn : Turn} {given : TurnDone} {after : List ℕ} → FramesRun frames bytes before turn
      → 0 < turn.left → WorksFrames frames bytes before turn given after
      → FramesRun given.progress.frames given.progress.bytes after given.turn

-- a run, whole: no turn is left, and where the input has ended the closing line on the page has the run's counts; else it says no
pub record RunsFrames (whole : Bool) (after : Page) : Type 0 where
  pub frames : ℕ
  pub bytes : ℕ
  pub block : List ℕ
  pub turn : Turn
  pub before : Page
  pub runs : FramesRun frames bytes block turn
  pub none : turn.left ≡ 0
  pub closes : has_ended turn.input ≡ true → FramesClosed frames bytes before after
  pub unfinished : has_ended turn.input ≡ false → whole ≡ false
