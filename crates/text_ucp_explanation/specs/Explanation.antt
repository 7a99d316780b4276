-- The line that explains an answer of the receiver. Assumes nothing.
use Rattle.std.specs.Prelude.{List, [], ◌∷◌, ◌++◌, ℕ, length}
use Rattle.ucp_frame.specs.Stretch.{Verdict, silent, refused, delivered}
use Rattle.ucp_receiver.specs.declared.Counts.{Counts}
use Rattle.ucp_receiver.specs.Octet.{State, state_after, verdict_due, counts_after}
use Rattle.text_ucp_listing.specs.Listing.{newline, ok_word, body_room}
use Rattle.ucp_messages.specs.Messages.{ReaderAnswer, refused as unread, means, message_due}
use Rattle.text_output.specs.declared.Printing.TheVariants.{Hex}
use Rattle.text_output.specs.Text.{codes, printed, natural}
use Rattle.text_refusals.specs.Refusals.{refusal}
use Rattle.text_ucp_messages.specs.Messages.{message_shown}

-- a delivered body: the message that it is; or the refusal, and then its length and octets
unfoldable pub read_line : ReaderAnswer → List ℕ → List ℕ
read_line (means message) body = ok_word ++ (natural (length body) ++ (message_shown message body ++ newline))
read_line (unread number) body =
    refusal number ++ (codes " body " ++ (natural (length body) ++ (printed Hex body ++ newline)))

-- the line of an answer; where there is none, nothing
abbrev pub explanation : Verdict → List ℕ
explanation silent = []
explanation (refused number) = refusal number ++ newline
explanation (delivered body) = read_line (message_due body) body

-- the line of every answer that the octets of a slice bring
unfoldable pub every_explanation : State → Counts → List ℕ → List ℕ
every_explanation s c [] = []
every_explanation s c (x ∷ xs) =
    explanation (verdict_due s x body_room) ++ every_explanation (state_after s x) (counts_after c s x body_room) xs
