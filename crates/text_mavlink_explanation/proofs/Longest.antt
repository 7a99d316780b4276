-- How long a line can be. Assumes nothing.
use mathlib.Core.Bool.{false}
use mathlib.Core.Path.{◌≡◌, sym, ap, subst, ◌∙◌}
use mathlib.Core.List.{List}
use Prim.Native.Nat.{ℕ, ◌+◌, ◌≤◌}
use native.Mathlib.Omega.{arith}
use lib.ListN.{length, length-append}
use Rattle.std.specs.Prelude.{Option}
use Rattle.text_output.specs.Clips.{text_room, Clips}
use Rattle.text_output.specs.declared.page.Page.{Page}
use Rattle.text_output.proofs.Clipped.{all_fits}
use Rattle.text_output.proofs.Numerals.{numeral_most}
use Rattle.text_refusals.proofs.Longest.{refusal_most}
use Rattle.mavlink_messages.specs.Messages.{MavlinkAnswer, refused, means, read_due}
use Rattle.text_mavlink_messages.proofs.Longest.{message_most}
use Rattle.text_mavlink_explanation.specs.Explanation.{frame_line, used_answer, frames_line}
use Rattle.text_mavlink_explanation.specs.Calls.{WholeLine, ExplainsFrame}

pub line_most : (r : MavlinkAnswer) → length (frame_line r) ≤ text_room
unfolding frame_line
line_most (means h used m f) = simp length-append (omega (arith, numeral_most false 10 20 used, message_most h m f))
line_most (refused number) = simp length-append (omega (arith, refusal_most number))

pub closing_most : (frames bytes : ℕ) → length (frames_line frames bytes) ≤ text_room
unfolding frames_line
closing_most frames bytes =
    simp length-append (omega (arith, numeral_most false 10 20 frames, numeral_most false 10 20 bytes))

-- a line that is short enough stands whole
pub whole : {page : Page} {line : List ℕ} {after : Page} → Clips page.room 0 line after.end after.room → length line ≤ text_room
    → WholeLine page line after
whole {page} {line} {after} p few =
    let ends : after.end ≡ 0 + length line = all_fits p (omega arith) in
    record { puts = p; all = omega arith; within = omega arith }

-- the line of what is read
pub explained : {input : List ℕ} {page : Page} {r : MavlinkAnswer} (given : Option ℕ) {after : Page} → read_due input ≡ r
    → given ≡ used_answer r → Clips page.room 0 (frame_line r) after.end after.room
    → ExplainsFrame input page given after
explained {input} {page} {r} given {after} e uses p = record {
  used = uses ∙ ap used_answer (sym e);
  line = whole (subst (λ (x : MavlinkAnswer). Clips page.room 0 (frame_line x) after.end after.room) (sym e) p) (line_most (read_due input));
}
