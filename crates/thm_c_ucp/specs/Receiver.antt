-- A linked line: `ostrogosz_ucp_start`, then calls of `ostrogosz_ucp_receive`, each with the store and the line's seven numbers as
-- the last one left them. It is a line of the receiver in C's numbers, so what holds of lines holds of it. Rests on the contracts
-- of c_ucp_receiver alone. Assumes nothing.
use Rattle.std.specs.Prelude.{◌≡◌, List, [], ◌∷◌, ◌++◌, map, ◌⊎◌, ℕ, ◌<◌, ◌≤◌, length, get_or, take}
use Rattle.refusals.specs.Numbers as because
use Rattle.ucp_frame.specs.Frame.{flag, frame, longest_body}
use Rattle.ucp_frame.specs.Stretch.{Verdict, refused}
use Rattle.ucp_history.specs.History.{Call, cut_at_flags, open_stretch, answer}
use Rattle.ucp_receiver.specs.Answers.{receiver_answer, answer_for, output_at_flag}
use Rattle.ucp_receiver.specs.Octet.{no_octets}
use Rattle.crc_gdl90_strength.specs.Strength.{TwoBodies, AtMostThreeBits, Within16Bits}
use Rattle.c_ucp_receiver.specs.Numbers.{rest_in, counts_in, record_numbers, answer_in, kind_told, value_told, answer_kind, answer_value, ReceivesNumbers, StartsNumbers}
use Rattle.thm_ucp_receiver.specs.Line.{Observed, Line}
use Rattle.thm_ucp_receiver.specs.Promises.{CountsAs, StoreAs, put_out, EndsIn, BodyLength, frame_answer, carrying}

-- one call: the octet and the output as at entry; the answer's two numbers; the store, the line and the output as at return
pub record LinkedCall : Type 0 where
  pub octet : ℕ
  pub output : List ℕ
  pub kind : ℕ
  pub value : ℕ
  pub store_after : List ℕ
  pub line_after : List ℕ
  pub output_then : List ℕ

-- the call meets the contract from this store and line
abbrev pub MeetsLinked : List ℕ → List ℕ → LinkedCall → Type 0
MeetsLinked store line c =
    (c.octet < 256)
    × ReceivesNumbers store line c.octet c.output c.kind c.value c.store_after c.line_after c.output_then

-- the first from these, and the others from what the one before left
abbrev pub LinkedRuns : List ℕ → List ℕ → List LinkedCall → Type 0
LinkedRuns store line [] = Unit
LinkedRuns store line (c ∷ cs) = MeetsLinked store line c × LinkedRuns c.store_after c.line_after cs

pub record LinkedLine (calls : List LinkedCall) : Type 0 where
  pub store : List ℕ
  pub line : List ℕ
  pub starts : StartsNumbers store line
  pub runs : LinkedRuns store line calls

-- ---- it is a line

-- a call of the receiver in C's numbers
abbrev pub in_numbers : Observed → LinkedCall
in_numbers o =
    record {
      octet = o.octet;
      output = o.output;
      kind = answer_kind o.given.answer;
      value = answer_value o.given.answer;
      store_after = o.store_after;
      line_after = record_numbers o.given.receiver;
      output_then = o.output_then;
    }

pub record IsLine (calls : List LinkedCall) : Type 0 where
  pub observed : List Observed
  pub line : Line observed
  pub same : map in_numbers observed ≡ calls

-- every linked line is a line in numbers, and every line in numbers is a linked line
pub record LinkedLines : Type 0 where
  pub is_line : (calls : List LinkedCall) → LinkedLine calls → IsLine calls
  pub of_line : (observed : List Observed) → Line observed → LinkedLine (map in_numbers observed)

-- ---- what C then sees of it

-- a call's part in the history, and the history up to it
abbrev pub linked_call_of : LinkedCall → Call
linked_call_of c = record { octet = c.octet; room = length c.output }

abbrev pub linked_up_to : List LinkedCall → LinkedCall → List Call
linked_up_to before c = map linked_call_of before ++ (linked_call_of c ∷ [])

-- the two numbers of the answer that is due, and its output
pub record LinkedAnswersAs (v : Verdict) (c : LinkedCall) : Type 0 where
  pub kind : c.kind ≡ kind_told (answer_for v)
  pub value : c.value ≡ value_told (answer_for v)
  pub puts : c.output_then ≡ output_at_flag v c.output

-- every call answers as the rules say of the calls before it
abbrev pub LinkedAnswersByHistory : Type 0
LinkedAnswersByHistory =
    (before after : List LinkedCall) (c : LinkedCall) → LinkedLine (before ++ c ∷ after)
    → LinkedAnswersAs (answer (map linked_call_of before) (linked_call_of c)) c

-- a flag that closes a stretch with an octet in it is answered
abbrev pub LinkedStretchIsAnswered : Type 0
LinkedStretchIsAnswered =
    (before after : List LinkedCall) (c : LinkedCall) → LinkedLine (before ++ c ∷ after) → c.octet ≡ flag
    → 1 ≤ length (open_stretch (cut_at_flags (map linked_call_of before)).flags) → c.kind ≡ 0 → ⊥

-- after every call the five counts among the line's numbers are the history's
abbrev pub LinkedCountsByHistory : Type 0
LinkedCountsByHistory =
    (before after : List LinkedCall) (c : LinkedCall) → LinkedLine (before ++ c ∷ after)
    → CountsAs (linked_up_to before c) (counts_in c.line_after)

-- and the store is the history's, with the number of octets in it among the line's numbers
abbrev pub LinkedStoreByHistory : Type 0
LinkedStoreByHistory =
    (before after : List LinkedCall) (c : LinkedCall) → LinkedLine (before ++ c ∷ after)
    → StoreAs (linked_up_to before c) (rest_in c.line_after).stored c.store_after

-- after every flag, from any store and line and whatever the answer, the store is zero, the phase 1 and nothing is stored
abbrev pub LinkedFlagClears : Type 0
LinkedFlagClears =
    (store line output : List ℕ) (kind value : ℕ) (store_after line_after output_then : List ℕ)
    → ReceivesNumbers store line flag output kind value store_after line_after output_then
    → (store_after ≡ no_octets) × (get_or line_after 0 0 ≡ 1) × (get_or line_after 1 0 ≡ 0)

-- what is seen of a call: its two numbers, and the octets put out
pub record LinkedSeen : Type 0 where
  pub kind : ℕ
  pub value : ℕ
  pub octets : List ℕ

abbrev pub linked_seen : LinkedCall → LinkedSeen
linked_seen c =
    record { kind = c.kind; value = c.value; octets = put_out (receiver_answer (answer_in c.kind c.value)) c.output_then }

-- calls from any two stores and lines that each come to a flag: where the same octets with the same rooms follow, the same is seen
abbrev pub LinkedLaterOnly : Type 0
LinkedLaterOnly =
    (store line another its_line : List ℕ) (before other : List LinkedCall) (f g : LinkedCall) (os ps : List LinkedCall)
    → f.octet ≡ flag → g.octet ≡ flag → LinkedRuns store line (before ++ f ∷ os) → LinkedRuns another its_line (other ++ g ∷ ps)
    → map linked_call_of os ≡ map linked_call_of ps → map linked_seen os ≡ map linked_seen ps

-- what is put out is a body whose frame the line ends in, and a line that ends in a frame has its body as the answer, or 6
abbrev pub LinkedPutOutIsFrame : Type 0
LinkedPutOutIsFrame =
    (before after : List LinkedCall) (c : LinkedCall) → LinkedLine (before ++ c ∷ after) → c.kind ≡ 1
    → EndsIn (frame (take c.value c.output_then)) (linked_up_to before c) × BodyLength (take c.value c.output_then)

abbrev pub LinkedFrameIsPutOut : Type 0
LinkedFrameIsPutOut =
    (before after : List LinkedCall) (c : LinkedCall) (b : List ℕ) → LinkedLine (before ++ c ∷ after)
    → BodyLength b → EndsIn (frame b) (linked_up_to before c)
    → LinkedAnswersAs (frame_answer b (length c.output)) c

-- demand 3, the receiver, one claim about whole lists of linked calls: every call answers as the rules say, and where the list ends
-- in the frame carrying one of two such bodies with the other's check, the last call answers 5
abbrev pub LinkedReceiverLists : Type 0
LinkedReceiverLists =
    (calls : List LinkedCall) → LinkedLine calls
    → ((before after : List LinkedCall) (c : LinkedCall) → calls ≡ before ++ c ∷ after
    → LinkedAnswersAs (answer (map linked_call_of before) (linked_call_of c)) c)
    × ((before : List LinkedCall) (last : LinkedCall) → calls ≡ before ++ last ∷ []
    → (a b : List ℕ) → TwoBodies a b → 1 ≤ length a → length a ≤ longest_body → AtMostThreeBits a b ⊎ Within16Bits a b
    → EndsIn (carrying a b) (linked_up_to before last)
    → LinkedAnswersAs (refused because.wrong_check) last)
