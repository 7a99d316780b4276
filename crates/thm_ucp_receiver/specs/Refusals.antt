-- When the receiver refuses a stretch, the line octets between two flags (document 01, the table's rows 1 to 6). Each condition is said of
-- the octets as they stand on the line, apart from how a stretch is read; the first fault from the left is kept, so of what stands
-- before the fault of rows 1 and 2 there are at most 438 octets, unstuffed. Assumes nothing.
use Rattle.std.specs.Prelude.{◌≡◌, List, [], ◌∷◌, ◌++◌, map, ◌↔◌, ℕ, ◌+◌, ◌*◌, ◌<◌, ◌≤◌, length}
use Rattle.crc_gdl90.specs.Check.{frame_check}
use Rattle.refusals.specs.Numbers as because
use Rattle.ucp_frame.specs.Frame.{flag, escape, stuffed, longest_body}
use Rattle.ucp_frame.specs.Stretch.{store_octets}
use Rattle.ucp_history.specs.History.{cut_at_flags, open_stretch}
use Rattle.ucp_receiver.specs.Answers.{ReceiverAnswer, nothing, refusal, receiver_answer}
use Rattle.thm_ucp_receiver.specs.Line.{Observed, call_of, Line}

-- row 1: 7D, and behind it an octet other than 5D and 5E (7E would have ended the stretch)
pub record BadEscapeIn (stretch : List ℕ) : Type 0 where
  pub read : List ℕ
  pub octet : ℕ
  pub unread : List ℕ
  pub parts : stretch ≡ stuffed read ++ escape ∷ octet ∷ unread
  pub bad : (octet ≡ 0x5E → ⊥) × (octet ≡ 0x5D → ⊥)
  pub first : length read ≤ store_octets

-- row 2: 7D directly before the closing flag
pub record EscapeLastIn (stretch : List ℕ) : Type 0 where
  pub read : List ℕ
  pub parts : stretch ≡ stuffed read ++ escape ∷ []
  pub first : length read ≤ store_octets

-- row 3: a 439th octet, unstuffed
pub record TooLongIn (stretch : List ℕ) : Type 0 where
  pub read : List ℕ
  pub unread : List ℕ
  pub parts : stretch ≡ stuffed read ++ unread
  pub many : length read ≡ store_octets + 1

-- row 4: all of it is read, and that is one or two octets
pub record TooShortIn (stretch : List ℕ) : Type 0 where
  pub read : List ℕ
  pub parts : stretch ≡ stuffed read
  pub few : (1 ≤ length read) × (length read < 3)

-- what is judged by its check: all of it is read, a body of 1 to 436 octets and two octets more
pub record BodyIn (stretch body : List ℕ) (low high : ℕ) : Type 0 where
  pub parts : stretch ≡ stuffed (body ++ low ∷ high ∷ [])
  pub size : (1 ≤ length body) × (length body ≤ longest_body)

-- row 5: those two, low octet first, are not the body's check
pub record WrongCheckIn (stretch : List ℕ) : Type 0 where
  pub body : List ℕ
  pub low : ℕ
  pub high : ℕ
  pub is : BodyIn stretch body low high
  pub wrong : low + high * 256 ≡ frame_check body → ⊥

-- row 6: they are, and the output lent at the flag is shorter than the body
pub record NoRoomIn (stretch : List ℕ) (room : ℕ) : Type 0 where
  pub body : List ℕ
  pub low : ℕ
  pub high : ℕ
  pub is : BodyIn stretch body low high
  pub right : low + high * 256 ≡ frame_check body
  pub short : room < length body

-- an answer to the flag that closes a stretch, by what it refuses with and whether it is silent: each refusal exactly when, and silence
-- exactly where the stretch has no octet
pub record RefusesWhen (stretch : List ℕ) (room : ℕ) (Refuses : ℕ → Type 0) (Silent : Type 0) : Type 0 where
  pub refuses1 : Refuses because.bad_escape ↔ BadEscapeIn stretch
  pub refuses2 : Refuses because.escape_before_flag ↔ EscapeLastIn stretch
  pub refuses3 : Refuses because.too_long ↔ TooLongIn stretch
  pub refuses4 : Refuses because.too_short ↔ TooShortIn stretch
  pub refuses5 : Refuses because.wrong_check ↔ WrongCheckIn stretch
  pub refuses6 : Refuses because.room ↔ NoRoomIn stretch room
  pub silent : Silent ↔ (stretch ≡ [])

abbrev pub AnswerRefuses : ReceiverAnswer → ℕ → Type 0
AnswerRefuses given number = given ≡ refusal number

-- of every line: a flag is answered so, by the stretch that it closes, and no other octet brings an answer
abbrev pub ReceiverRefusesWhen : Type 0
ReceiverRefusesWhen =
    (before after : List Observed) (o : Observed) → Line (before ++ o ∷ after)
    → (o.octet ≡ flag
    → RefusesWhen (open_stretch (cut_at_flags (map call_of before)).flags) (length o.output) (AnswerRefuses (receiver_answer o.given.answer))
    (receiver_answer o.given.answer ≡ nothing))
    × ((o.octet ≡ flag → ⊥) → receiver_answer o.given.answer ≡ nothing)
