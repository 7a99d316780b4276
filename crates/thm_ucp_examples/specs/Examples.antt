-- The frames of document 01, "Frames to try", that are marked P, as one list; and with them that demand 3's premises are met by some
-- bodies. Assumes nothing.
use Rattle.std.specs.Prelude.{◌≡◌, List, [], ◌∷◌, ◌++◌, ℕ}
use Rattle.refusals.specs.Numbers as because
use Rattle.ucp_frame.specs.Frame.{frame}
use Rattle.ucp_frame.specs.Stretch.{Verdict, silent, refused, delivered}
use Rattle.ucp_history.specs.History.{Call, answer}
use Rattle.ucp_receiver.specs.Account.{zero_counts}
use Rattle.ucp_receiver.specs.Octet.{fresh}
use Rattle.ucp_receiver.specs.Slice.{slice_run}
use Rattle.crc_gdl90_strength.specs.Limits.{FourBitsUnseen}
use Rattle.crc_gdl90_strength.specs.Premises.{PremisesMet}

-- the answers of a line, those that are given, with 436 octets of room lent to each call
abbrev pub answers_given : Verdict → List Verdict
answers_given silent = []
answers_given (refused number) = refused number ∷ []
answers_given (delivered body) = delivered body ∷ []

abbrev pub call : ℕ → Call
call octet = record { octet = octet; room = 436 }

unfoldable pub answers_after : List Call → List ℕ → List Verdict
answers_after before [] = []
answers_after before (x ∷ xs) = answers_given (answer before (call x)) ++ answers_after (before ++ (call x ∷ [])) xs

abbrev pub answers : List ℕ → List Verdict
answers line = answers_after [] line

pub record FrameExamples : Type 0 where
  pub frame_2c022b : frame (0x2C ∷ 0x02 ∷ 0x2B ∷ []) ≡ 0x7E ∷ 0x2C ∷ 0x02 ∷ 0x2B ∷ 0xC5 ∷ 0xE7 ∷ 0x7E ∷ []
  pub frame_2c01 : frame (0x2C ∷ 0x01 ∷ []) ≡ 0x7E ∷ 0x2C ∷ 0x01 ∷ 0x01 ∷ 0x2C ∷ 0x7E ∷ []
  pub frame_00 : frame (0x00 ∷ []) ≡ 0x7E ∷ 0x00 ∷ 0x00 ∷ 0x00 ∷ 0x7E ∷ []
  pub frame_7d7e :
      frame (0x7D ∷ 0x7E ∷ [])
      ≡ 0x7E ∷ 0x7D ∷ 0x5D ∷ 0x7D ∷ 0x5E ∷ 0x7D ∷ 0x5E ∷ 0x7D ∷ 0x5D ∷ 0x7E ∷ []
  pub wrong_check : answers (0x7E ∷ 0x2C ∷ 0x02 ∷ 0x2B ∷ 0xC4 ∷ 0xE7 ∷ 0x7E ∷ []) ≡ refused because.wrong_check ∷ []
  pub bad_escape : answers (0x7E ∷ 0x7D ∷ 0x00 ∷ 0x7E ∷ []) ≡ refused because.bad_escape ∷ []
  pub escape_last : answers (0x7E ∷ 0x7D ∷ 0x7E ∷ []) ≡ refused because.escape_before_flag ∷ []
  pub too_short : answers (0x7E ∷ 0x01 ∷ 0x01 ∷ 0x7E ∷ []) ≡ refused because.too_short ∷ []
  pub no_answer : answers (0x7E ∷ 0x7E ∷ []) ≡ []
  -- bodies 2C 02 2B and 2D 12 0A share check E7C5: four bits over 17 places, just past demand 3
  pub shared_check : FourBitsUnseen
  -- bodies within demand 3, at each edge of its premises: three bits, 16 places, 1 and 436 octets
  pub within_demand_3 : PremisesMet
  -- one bit of the body and one of the check are flipped, and the frame is delivered
  pub two_flips :
      answers (0x7E ∷ 0x2C ∷ 0x02 ∷ 0x2A ∷ 0xC4 ∷ 0xE7 ∷ 0x7E ∷ []) ≡ delivered (0x2C ∷ 0x02 ∷ 0x2A ∷ []) ∷ []

-- ---- one flipped line bit can deliver a body that nobody sent

-- a body whose frame holds, behind its flag, the octets 2C 01 and their check
abbrev pub sent_body : List ℕ
sent_body = 0x2C ∷ 0x01 ∷ 0x01 ∷ 0x2C ∷ 0x7F ∷ []

-- its frame on the line, and the same with the lowest bit of 7F flipped, which makes a flag of it
abbrev pub sent_line : List ℕ
sent_line = 0x7E ∷ 0x2C ∷ 0x01 ∷ 0x01 ∷ 0x2C ∷ 0x7F ∷ 0xC8 ∷ 0xFC ∷ 0x7E ∷ []

abbrev pub flipped_line : List ℕ
flipped_line = 0x7E ∷ 0x2C ∷ 0x01 ∷ 0x01 ∷ 0x2C ∷ 0x7E ∷ 0xC8 ∷ 0xFC ∷ 0x7E ∷ []

pub record DataOctetBecomesFlag : Type 0 where
  pub sent : frame sent_body ≡ sent_line
  pub received : answers sent_line ≡ delivered sent_body ∷ []
  pub flipped : answers flipped_line ≡ delivered (0x2C ∷ 0x01 ∷ []) ∷ refused because.too_short ∷ []
  -- of the receiver's step: the call that takes the new flag puts that body out
  pub step : (slice_run fresh zero_counts flipped_line 436).verdict ≡ delivered (0x2C ∷ 0x01 ∷ [])
