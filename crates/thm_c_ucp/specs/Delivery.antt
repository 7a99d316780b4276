-- Each frame that `ostrogosz_ucp_receive` delivers writes back to the same octets by `ostrogosz_ucp_write_frame`, and a frame on a
-- linked line is delivered whole (the tender, demand 2). Rests on the contracts of c_ucp_receiver and c_ucp_frames alone. Assumes
-- nothing.
use Rattle.std.specs.Prelude.{◌≡◌, List, ◌∷◌, ◌++◌, ℕ, ◌≤◌, length, take}
use Rattle.output_writing.specs.declared.OstrogoszWritten.{OstrogoszWritten}
use Rattle.ucp_frame.specs.Frame.{frame, longest_body}
use Rattle.ucp_frame.specs.Stretch.{delivered}
use Rattle.c_ucp_frames.specs.Frames.{WritesFrameNumbers}
use Rattle.thm_ucp_receiver.specs.Promises.{EndsIn}
use Rattle.thm_c_ucp.specs.Receiver.{LinkedCall, LinkedLine, linked_up_to, LinkedAnswersAs}

-- where a linked line, whatever it brought before, ends in these octets, and the room is 436 octets or more: the last call delivers
-- this body, and the octets that it put out meet `Use`
abbrev pub DeliversLinked : List ℕ → List ℕ → (List ℕ → Type 0) → Type 0
DeliversLinked octets body Use =
    (before later : List LinkedCall) (c : LinkedCall) → LinkedLine (before ++ c ∷ later)
    → EndsIn octets (linked_up_to before c) → longest_body ≤ length c.output
    → LinkedAnswersAs (delivered body) c × Use (take c.value c.output_then)

-- where a call of a linked line delivers a body, and the linked frame writer is given that body: with room it accepts, and the octets
-- that it then writes are those that the line ended in
abbrev pub LinkedDeliveredWritesBack : Type 0
LinkedDeliveredWritesBack =
    (before after : List LinkedCall) (c : LinkedCall) → LinkedLine (before ++ c ∷ after) → c.kind ≡ 1
    → (output then : List ℕ) (w : OstrogoszWritten) → WritesFrameNumbers (take c.value c.output_then) output w then
    → (length (frame (take c.value c.output_then)) ≤ length output
    → w ≡ record { refusal = 0; length = length (frame (take c.value c.output_then)) })
    × (w.refusal ≡ 0 → EndsIn (take w.length then) (linked_up_to before c))
