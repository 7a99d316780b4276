-- What holds of every line, over the receiver's contract. `proofs/Promises.antt` and `proofs/Frames.antt` prove it.
-- Assumes nothing.
use Rattle.std.specs.Prelude.{◌≡◌, cond, List, [], ◌∷◌, ◌++◌, map, ℕ, ◌+◌, ◌-◌, ◌%◌, ◌^◌, ◌≤◌, ltb, length, take, get_or, replicate}
use Rattle.crc_polynomial.specs.Polynomial.{Octets}
use Rattle.crc_gdl90.specs.Check.{frame_check, frame_check_octets}
use Rattle.refusals.specs.Numbers as because
use Rattle.ucp_frame.specs.Frame.{flag, stuffed, frame, longest_body}
use Rattle.ucp_frame.specs.Stretch.{unstuffed, Verdict, refused, delivered, store_octets}
use Rattle.ucp_history.specs.History.{Call, cut_at_flags, open_stretch, answer, Account, account}
use Rattle.ucp_receiver.specs.declared.Counts.{Counts}
use Rattle.ucp_receiver.specs.declared.Record.{Record}
use Rattle.ucp_receiver.specs.declared.Received.{Received}
use Rattle.ucp_receiver.specs.Answers.{ReceiverAnswer, nothing, refusal, body, receiver_answer, answer_for, output_at_flag}
use Rattle.ucp_receiver.specs.Octet.{no_octets, flag_rest, Receives}
use Rattle.thm_ucp_receiver.specs.Line.{Observed, call_of, up_to, Runs, Line}

-- ---- the answers (document 01, "The receiver, byte by byte" and the table's rows 1 to 6)

pub record AnswersAs (v : Verdict) (o : Observed) : Type 0 where
  pub tells : receiver_answer o.given.answer ≡ answer_for v
  pub puts : o.output_then ≡ output_at_flag v o.output

-- every call answers as the rules say of the calls before it, cut at flags
abbrev pub AnswersByHistory : Type 0
AnswersByHistory =
    (before after : List Observed) (o : Observed) → Line (before ++ o ∷ after)
    → AnswersAs (answer (map call_of before) (call_of o)) o

-- a flag that closes a stretch with an octet in it is answered
abbrev pub StretchIsAnswered : Type 0
StretchIsAnswered =
    (before after : List Observed) (o : Observed) → Line (before ++ o ∷ after) → o.octet ≡ flag
    → 1 ≤ length (open_stretch (cut_at_flags (map call_of before)).flags) → receiver_answer o.given.answer ≡ nothing → ⊥

-- ---- the byte account (document 01, "The byte account")

-- the five numbers of a history together
abbrev pub sum : Account → ℕ
sum a = a.flags + a.delivered + a.refused + a.skipped + a.open_octets

-- each modulo 2^32
abbrev pub account_counts : Account → Counts
account_counts a =
    record {
      flags = a.flags % 2 ^ 32;
      delivered = a.delivered % 2 ^ 32;
      refused = a.refused % 2 ^ 32;
      skipped = a.skipped % 2 ^ 32;
      unclosed = a.open_octets % 2 ^ 32;
    }

pub record CountsAs (calls : List Call) (c : Counts) : Type 0 where
  pub each : c ≡ account_counts (account calls)
  pub received : (c.flags + c.delivered + c.refused + c.skipped + c.unclosed) % 2 ^ 32 ≡ length calls % 2 ^ 32

-- after every call each count is the history's modulo 2^32, and their sum is the octets received
abbrev pub CountsByHistory : Type 0
CountsByHistory =
    (before after : List Observed) (o : Observed) → Line (before ++ o ∷ after)
    → CountsAs (up_to before o) o.given.receiver.counts

-- the history's numbers leave no octet out
abbrev pub EveryOctetCounted : Type 0
EveryOctetCounted = (calls : List Call) → sum (account calls) ≡ length calls

-- ---- the store (document 01, "The receiver, byte by byte", its second paragraph)

pub record CleanBeyond (stored : ℕ) (store : List ℕ) : Type 0 where
  pub whole : length store ≡ store_octets
  pub zero : (i : ℕ) → stored ≤ i → get_or store i 0 ≡ 0

-- after every call the octets beyond those stored are zero
abbrev pub StoreClean : Type 0
StoreClean =
    (before after : List Observed) (o : Observed) → Line (before ++ o ∷ after)
    → CleanBeyond o.given.receiver.rest.stored o.store_after

-- what a history leaves in the store: the open stretch unstuffed, as far as its first fault, a bad escape or the 439th octet
abbrev pub stored_by : List Call → List ℕ
stored_by calls = take store_octets (unstuffed (open_stretch (cut_at_flags calls).flags)).octets

pub record StoreAs (calls : List Call) (stored : ℕ) (store : List ℕ) : Type 0 where
  pub number : stored ≡ length (stored_by calls)
  pub octets : store ≡ stored_by calls ++ replicate (store_octets - length (stored_by calls)) 0

-- after every call the store holds that, and zero behind
abbrev pub StoreByHistory : Type 0
StoreByHistory =
    (before after : List Observed) (o : Observed) → Line (before ++ o ∷ after)
    → StoreAs (up_to before o) o.given.receiver.rest.stored o.store_after

-- so before the first flag nothing is stored
abbrev pub HuntingStoresNothing : Type 0
HuntingStoresNothing =
    (before after : List Observed) (o : Observed) → Line (before ++ o ∷ after) → (cut_at_flags (up_to before o)).flags ≡ []
    → (o.given.receiver.rest.stored ≡ 0) × (o.store_after ≡ no_octets)

-- after every flag, from any record and whatever the answer, the store is zero and the rest is the one fixed value
abbrev pub FlagClears : Type 0
FlagClears =
    (receiver : Record) (store output : List ℕ) (given : Received) (store_after output_then : List ℕ)
    → Receives receiver store flag output given store_after output_then
    → (store_after ≡ no_octets) × (given.receiver.rest ≡ flag_rest)

-- ---- two lines that each come to a flag (the tender, demand 1)

-- the octets that an answer puts out
abbrev pub put_out : ReceiverAnswer → List ℕ → List ℕ
put_out nothing output = []
put_out (refusal number) output = []
put_out (body octets) output = take octets output

-- what is seen of a call: its answer, and the octets put out
pub record Seen : Type 0 where
  pub answer : ReceiverAnswer
  pub octets : List ℕ

abbrev pub seen : Observed → Seen
seen o = record { answer = receiver_answer o.given.answer; octets = put_out (receiver_answer o.given.answer) o.output_then }

-- where the same octets with the same rooms follow, the same is seen, from any two records and whatever came before
abbrev pub LaterOnly : Type 0
LaterOnly =
    (receiver another : Record) (store its_store : List ℕ) (before other : List Observed) (f g : Observed) (os ps : List Observed)
    → f.octet ≡ flag → g.octet ≡ flag → Runs receiver store (before ++ f ∷ os) → Runs another its_store (other ++ g ∷ ps)
    → map call_of os ≡ map call_of ps → map seen os ≡ map seen ps

-- ---- a body and its frame (the tender, demand 2)

-- the line octets of a history end in these
pub record EndsIn (tail : List ℕ) (calls : List Call) : Type 0 where
  pub earlier : List ℕ
  pub parts : map (λ (c : Call). c.octet) calls ≡ earlier ++ tail

pub record BodyLength (b : List ℕ) : Type 0 where
  pub least : 1 ≤ length b
  pub most : length b ≤ longest_body

-- where a body is delivered, the line from the flag before up to this one is its frame
abbrev pub HistoryDeliversFrame : Type 0
HistoryDeliversFrame =
    (before : List Call) (c : Call) (b : List ℕ) → Octets (map (λ (d : Call). d.octet) before) → answer before c ≡ delivered b
    → EndsIn (frame b) (before ++ (c ∷ [])) × BodyLength b

-- the answer to a frame's closing flag: the body, or 6 where the room is shorter
abbrev pub frame_answer : List ℕ → ℕ → Verdict
frame_answer b room = cond (ltb room (length b)) (refused because.room) (delivered b)

-- a line that ends in a frame has that as its last answer
abbrev pub HistoryFrameDelivered : Type 0
HistoryFrameDelivered =
    (before : List Call) (c : Call) (b : List ℕ) → BodyLength b → EndsIn (frame b) (before ++ (c ∷ []))
    → answer before c ≡ frame_answer b c.room

-- the same two of the calls that run, and of the octets in the output
abbrev pub PutOutIsFrame : Type 0
PutOutIsFrame =
    (before after : List Observed) (o : Observed) (octets : ℕ) → Line (before ++ o ∷ after)
    → receiver_answer o.given.answer ≡ body octets
    → EndsIn (frame (take octets o.output_then)) (up_to before o) × BodyLength (take octets o.output_then)

abbrev pub FrameIsPutOut : Type 0
FrameIsPutOut =
    (before after : List Observed) (o : Observed) (b : List ℕ) → Line (before ++ o ∷ after)
    → BodyLength b → EndsIn (frame b) (up_to before o)
    → AnswersAs (frame_answer b (length o.output)) o

-- ---- the receiver's part of demand 3 (document 01, "Demand 3 in exact terms")

-- the frame carrying one body with another's check
abbrev pub carrying : List ℕ → List ℕ → List ℕ
carrying a b = flag ∷ stuffed (a ++ frame_check_octets b) ++ (flag ∷ [])

-- where the two checks differ, a line that ends in it has 5 as its last answer, whatever rooms were lent
abbrev pub WrongCheckRefused : Type 0
WrongCheckRefused =
    (a b : List ℕ) → BodyLength a → (frame_check a ≡ frame_check b → ⊥)
    → (before : List Observed) (o : Observed) → Line (before ++ o ∷ []) → EndsIn (carrying a b) (up_to before o)
    → receiver_answer o.given.answer ≡ refusal because.wrong_check
