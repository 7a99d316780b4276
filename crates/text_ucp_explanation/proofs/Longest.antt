-- How long a line can be. Assumes nothing.
use mathlib.Core.Bool.{false}
use mathlib.Core.List.{List}
use Prim.Native.Nat.{ℕ, ◌≤◌}
use native.Mathlib.Omega.{arith}
use lib.ListN.{length, length-append}
use Rattle.ucp_frame.specs.Stretch.{Verdict, silent, refused, delivered}
use Rattle.ucp_messages.specs.Messages.{ReaderAnswer, refused as unread, means, message_due}
use Rattle.text_output.specs.Clips.{text_room}
use Rattle.text_output.proofs.Numerals.{numeral_most}
use Rattle.text_output.proofs.Printed.{hex_length}
use Rattle.text_refusals.proofs.Longest.{refusal_most}
use Rattle.text_ucp_messages.proofs.Longest.{message_most}
use Rattle.text_ucp_explanation.specs.Explanation.{read_line, explanation}

read_most : (a : ReaderAnswer) (body : List ℕ) → length body ≤ 436 → length (read_line a body) ≤ text_room
unfolding read_line
read_most (means message) body few =
    simp length-append (omega (arith, numeral_most false 10 20 (length body), message_most message body few))
read_most (unread n) body few =
    simp length-append (omega (arith, refusal_most n, numeral_most false 10 20 (length body), hex_length body))

abbrev pub BodyFits : Verdict → Type 0
BodyFits silent = Unit {0}
BodyFits (refused n) = Unit {0}
BodyFits (delivered body) = length body ≤ 436

pub line_most : (v : Verdict) → BodyFits v → length (explanation v) ≤ text_room
line_most silent few = omega arith
line_most (refused n) few = simp length-append (omega (arith, refusal_most n))
line_most (delivered body) few = read_most (message_due body) body few
