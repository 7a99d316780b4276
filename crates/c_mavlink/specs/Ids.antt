-- The message ID of the frame at the start of an input, for C, so that the caller knows which reader to call: the reader's tests up to
-- 23 and to the frame's length (document 01, "MAVLink tests"). Assumes nothing.
use Rattle.std.specs.Prelude.{cond, List, ℕ, zero, suc, ◌+◌, eqb, get_or, Result, Ok, Err}
use Rattle.refusals.specs.Numbers as because
use Rattle.refusals.specs.Refusals.{refusal_number}
use Rattle.refusals.specs.declared.Refusal.{Refusal}
use Rattle.mavlink_frame.specs.Reader.{FrameAnswer, refused, frame, found}
use Rattle.c_mavlink.specs.declared.OstrogoszMavlinkId.{OstrogoszMavlinkId}

-- the refusal that is due before the check is looked at; 0, where none is
abbrev pub refusal_before_check : FrameAnswer → ℕ
refusal_before_check (frame id h used) = 0
refusal_before_check (refused number) = cond (eqb number because.mavlink_wrong_check) 0 number

-- a refusal's number, and all else 0; or no refusal, the message ID, and how many octets the frame has
abbrev pub id_numbers : ℕ → List ℕ → OstrogoszMavlinkId
id_numbers zero s = record { refusal = 0; id = get_or s 5 0; used = get_or s 1 0 + 8 }
id_numbers (suc n) s = record { refusal = suc n; id = 0; used = 0 }

abbrev pub mavlink_id_due : List ℕ → OstrogoszMavlinkId
mavlink_id_due s = id_numbers (refusal_before_check (found s)) s

-- the same of an answer that is not yet in numbers
abbrev pub id_answer : Result OstrogoszMavlinkId Refusal → OstrogoszMavlinkId
id_answer (Ok id) = id
id_answer (Err refusal) = record { refusal = refusal_number refusal; id = 0; used = 0 }
