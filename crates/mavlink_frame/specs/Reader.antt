-- What stands at the start of an input, by the tests in document 01's order: no octet 20; 21; fewer than six octets 20; 22; 23;
-- fewer than length + 8 octets 20; 24. Assumes nothing.
use Rattle.std.specs.Prelude.{cond, List, [], ◌∷◌, ◌++◌, ℕ, ◌+◌, ◌*◌, eqb, ltb, length, get_or, take, drop, Result, Ok, Err}
use Rattle.crc_x25.specs.Check.{x25}
use Rattle.refusals.specs.Numbers as because
use Rattle.refusals.specs.Refusals.{refusal_number}
use Rattle.refusals.specs.declared.Refusal.{Refusal}
use Rattle.mavlink_frame.specs.declared.Kind.{Kind}
use Rattle.mavlink_frame.specs.declared.Header.{Header}
use Rattle.mavlink_frame.specs.declared.Found.{Found}
use Rattle.mavlink_frame.specs.Frame.{KindAnswer, known, unknown, mavlink_kind, start}

-- an answer in the paper's terms: a refusal's number, or a right frame's message ID, header and number of octets
pub data FrameAnswer : Type 0 where
  refused : ℕ → FrameAnswer
  frame : ℕ → Header → ℕ → FrameAnswer

-- the paper's number and values of each case
abbrev pub found_answer : Result Found Refusal → FrameAnswer
found_answer (Err refusal) = refused (refusal_number refusal)
found_answer (Ok f) = frame f.id f.header f.used

-- octets 2, 3 and 4
abbrev pub header_at : List ℕ → Header
header_at s = record { sequence = get_or s 2 0; system = get_or s 3 0; component = get_or s 4 0 }

-- the payload of n octets, from 6 on
abbrev pub payload_at : ℕ → List ℕ → List ℕ
payload_at n s = take n (drop 6 s)

-- the check at n + 6, low octet first, is that of the octets from 1 to n + 5 and then the extra
abbrev pub check_at : ℕ → List ℕ → ℕ
check_at n s = get_or s (n + 6) 0 + 256 * get_or s (n + 6 + 1) 0

abbrev pub check_due : ℕ → ℕ → List ℕ → ℕ
check_due n extra s = x25 (take (n + 5) (drop 1 s) ++ extra ∷ [])

-- the tests from 23 on
unfoldable pub found_of : Kind → List ℕ → FrameAnswer
found_of k s =
    cond (eqb (get_or s 1 0) k.length)
    (cond (ltb (length s) (k.length + 8)) (refused because.mavlink_short)
    (cond (eqb (check_at k.length s) (check_due k.length k.extra s)) (frame k.id (header_at s) (k.length + 8))
    (refused because.mavlink_wrong_check)))
    (refused because.mavlink_length)

abbrev pub found_by : KindAnswer → List ℕ → FrameAnswer
found_by (known k) s = found_of k s
found_by unknown s = refused because.mavlink_unknown_id

unfoldable pub found : List ℕ → FrameAnswer
found s =
    cond (eqb (length s) 0) (refused because.mavlink_short)
    (cond (eqb (get_or s 0 0) start)
    (cond (ltb (length s) 6) (refused because.mavlink_short) (found_by (mavlink_kind (get_or s 5 0)) s))
    (refused because.mavlink_start))
