-- The line octets between two flags: unstuffed up to the first fault, and what is due for them at the closing flag (document 01,
-- "The receiver, byte by byte", and the table's rows 1 to 6). Assumes nothing.
use Rattle.std.specs.Prelude.{cond, List, [], ◌∷◌, ℕ, ◌+◌, ◌*◌, ◌-◌, eqb, ltb, length, take, get_or}
use Rattle.ucp_frame.specs.Frame.{flag, escape}
use Rattle.crc_gdl90.specs.Check.{frame_check}
use Rattle.refusals.specs.Numbers as because

-- how the octets between two flags end
pub data Ending : Type 0 where
  -- all of them are read
  whole : Ending
  -- 7D directly before the closing flag
  escape_last : Ending
  -- 7D followed by an octet other than 5D, 5E; what follows is not read
  bad_escape : Ending

pub record Unstuffed : Type 0 where
  pub octets : List ℕ
  pub ending : Ending

abbrev pub nothing_but : Ending → Unstuffed
nothing_but e = record { octets = []; ending = e }

abbrev pub also : ℕ → Unstuffed → Unstuffed
also x u = record { octets = x ∷ u.octets; ending = u.ending }

unfoldable pub unstuffed : List ℕ → Unstuffed
unstuffed [] = nothing_but whole
unstuffed (x ∷ []) = cond (eqb x escape) (nothing_but escape_last) (also x (nothing_but whole))
unstuffed (x ∷ y ∷ ys) =
    cond (eqb x escape)
    (cond (eqb y 0x5E) (also flag (unstuffed ys))
    (cond (eqb y 0x5D) (also escape (unstuffed ys))
    (nothing_but bad_escape)))
    (also x (unstuffed (y ∷ ys)))

-- an answer in the paper's terms: none, a refusal's number, or the body that is put out
pub data Verdict : Type 0 where
  silent : Verdict
  refused : ℕ → Verdict
  delivered : List ℕ → Verdict

-- how many unstuffed octets the store holds
abbrev pub store_octets : ℕ
store_octets = 438

-- the unstuffed octets without the last two, which are the check, low octet first
abbrev pub without_check : List ℕ → List ℕ
without_check octets = take (length octets - 2) octets

abbrev pub check_sent : List ℕ → ℕ
check_sent octets = get_or octets (length octets - 2) 0 + get_or octets (length octets - 1) 0 * 256

-- decided at the flag, in the table's order: 4, 5, 6, or the body
unfoldable pub at_flag : List ℕ → ℕ → Verdict
at_flag octets room =
    cond (ltb (length octets) 3) (refused because.too_short)
    (cond (eqb (check_sent octets) (frame_check (without_check octets)))
    (cond (ltb room (length (without_check octets))) (refused because.room)
    (delivered (without_check octets)))
    (refused because.wrong_check))

abbrev pub by_ending : Ending → List ℕ → ℕ → Verdict
by_ending bad_escape octets room = refused because.bad_escape
by_ending escape_last octets room = refused because.escape_before_flag
by_ending whole octets room = at_flag octets room

-- the first fault from the left is kept: the 439th unstuffed octet comes before whatever ends the reading
unfoldable pub judged : Unstuffed → ℕ → Verdict
judged u room = cond (ltb store_octets (length u.octets)) (refused because.too_long) (by_ending u.ending u.octets room)

-- a stretch with no octet in it gives no answer
unfoldable pub verdict : List ℕ → ℕ → Verdict
verdict [] room = silent
verdict (x ∷ xs) room = judged (unstuffed (x ∷ xs)) room
