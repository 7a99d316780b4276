-- The tender's demands 1 to 3, in one place. Each clause is over what functions ensure of a call, or over the definitions that their
-- contracts cite. Those named `linked..` and `lent..` are of the calls that C and Rust link: `ostrogosz_ucp_start`,
-- `ostrogosz_ucp_receive`, `ostrogosz_ucp_receive_slice` and `ostrogosz_ucp_write_frame`; `ostrogosz_ucp_read_id` and, for every kind,
-- `ostrogosz_ucp_read_..`, `.._write_..` and `.._send_..`; `ostrogosz_mavlink_read_id` and, for every kind, `ostrogosz_mavlink_read_..`
-- and `.._write_..`. The others are of public functions of the Rattle crates, of which the programs call some: `WritesFrame` of
-- `ucp_writer::write_frame`, `Receives` of `ucp_receiver::octet::receive` and `Takes` of `receive_slice`; `Reads`, `WritesBody` and
-- `Sends` of messages (ucp_messages, ucp_answers, ucp_send); `read_due` and `write_due` of MAVLink (mavlink_messages). What a raw number
-- means in feet and in feet per minute, and which failures a status reports, 01 states too: those calls have contracts that fix each
-- answer by `altitude_means`, `rate_means`, `geometric_means` (ucp_meanings) and `failures_in` (mavlink_messages), which `ucp_kinds`,
-- `mavlink_kinds` and `numbers` of `Examples` tie to 01. Of degrees, of `ostrogosz_ucp_frame_check` and of the interface's number the
-- tender asks nothing but that they return; contracts fix their answers too. That every call on every input returns, with no
-- undefined step, is what proving a Rattle function means; no linked call, and none that is named here, has a `requires`. (What
-- pointers from C have to be, include/ostrogosz/common.h says; the header's inline functions and the Rust wrapper have no contract.)
-- Proved in proofs/Demands.antt. Assumes nothing.
use Rattle.std.specs.Prelude.{◌≡◌, true, false, List, [], ◌∷◌, ◌++◌, map, ◌⊎◌, ◌↔◌, ℕ, ◌+◌, ◌≤◌, ◌<◌, length, drop}
use Rattle.std.specs.Int.Bits.{bit_xor}
use Rattle.crc_polynomial.specs.Polynomial.{Octets, bits_of_octets, polynomial, quotient, times_generator, degree16}
use Rattle.crc_gdl90.specs.Check.{frame_check}
use Rattle.crc_x25.specs.Check.{x25}
use Rattle.crc_x25.specs.CrcCode.{crc_calculate}
use Rattle.refusals.specs.Numbers as because
use Rattle.ucp_frame.specs.Frame.{frame, longest_body, longest_frame}
use Rattle.output_writing.specs.Writing.{Written, WriterAnswer, refused, wrote, writer_answer, Writing, output_after}
use Rattle.ucp_writer.specs.Writes.{WritesFrame}
use Rattle.ucp_writer.specs.Refusals.{WrongBodyLength, NoRoomForFrame, RoomForFrame, FrameWriterRefuses}
use Rattle.mavlink_frame.specs.declared.Header.{Header}
use Rattle.mavlink_messages.specs.declared.Message as mavlink
use Rattle.mavlink_messages.specs.Messages.{MavlinkRead}
use Rattle.mavlink_messages.specs.Messages as MavlinkReads
use Rattle.mavlink_messages.specs.Messages.{read_due, write_due, message_frame, in_range, payload_of}
use Rattle.mavlink_messages.specs.Refusals.{MavlinkShort, MavlinkWrongStart, MavlinkUnknownId, MavlinkWrongLength, MavlinkWrongCheck, MavlinkOutsideRange}
use Rattle.thm_mavlink_messages.specs.RoundTrips as mavlink-trips
use Rattle.thm_c_mavlink.specs.RoundTrips.{LentMavlinkReadsBack, LentMavlinkWritesBack}
use Rattle.thm_c_messages.specs.RoundTrips.{LentRoundTrips}
use Rattle.thm_c_messages.specs.Delivery.{LentSentIsDelivered, DeliversOnLine}
use Rattle.thm_c_messages.specs.Refusals.{LentRefusals, IdRefuses}
use Rattle.thm_ucp_messages.specs.Delivery.{SentIsDelivered, DeliveredWritesBack}
use Rattle.thm_ucp_messages.specs.RoundTrips as message-trips
use Rattle.thm_ucp_messages.specs.Typed.{ReadIsTyped}
use Rattle.ucp_receiver.specs.declared.Record.{Record}
use Rattle.ucp_receiver.specs.declared.Received.{Received}
use Rattle.ucp_receiver.specs.declared.Taken.{Taken}
use Rattle.ucp_receiver.specs.Answers.{ReceiverAnswer, nothing, refusal, receiver_answer}
use Rattle.ucp_receiver.specs.Octet.{Receives}
use Rattle.ucp_receiver.specs.Slice.{Takes}
use Rattle.ucp_history.specs.History.{answer}
use Rattle.crc_gdl90_strength.specs.Strength.{TwoBodies, AtMostThreeBits, Within16Bits, Strength}
use Rattle.ucp_messages.specs.declared.Message as ucp
use Rattle.ucp_messages.specs.Messages.{message_fits, message_body}
use Rattle.ucp_messages.specs.Kinds.{kind_in}
use Rattle.ucp_messages.specs.Messages as Reads
use Rattle.ucp_messages.specs.Refusals.{UnknownId, WrongMessageLength, WrongFixedOctet, FieldOutsideRange}
use Rattle.ucp_answers.specs.Writes as Message
use Rattle.ucp_send.specs.Sends.{Sends}
use Rattle.crc_gdl90_strength.specs.Premises.{PremisesMet}
use Rattle.thm_ucp_examples.specs.Examples.{FrameExamples, DataOctetBecomesFlag}
use Rattle.thm_ucp_examples.specs.LinePremises.{EndsInMet, StretchMet, SliceLineMet, WriterCallMet}
use Rattle.thm_mavlink_messages.specs.Examples.{PacketExamples}
use Rattle.thm_kind_examples.specs.Ucp.{UcpKindExamples}
use Rattle.thm_kind_examples.specs.Mavlink.{MavlinkKindExamples}
use Rattle.thm_kind_examples.specs.Squawks.{SquawkRanges, Refuses1280}
use Rattle.thm_kind_examples.specs.Emitters.{EmitterRanges, Obstacles}
use Rattle.thm_c_examples.specs.Structs.{StructExamples}
use Rattle.thm_c_examples.specs.Numbers.{NumberExamples}
use Rattle.thm_c_examples.specs.Premises.{StructPremises}
use Rattle.thm_ucp_writer.specs.Calls.{WriterLists}
use Rattle.thm_ucp_receiver.specs.Line.{Observed, call_of, up_to, Line}
use Rattle.thm_ucp_receiver.specs.Lines.{EveryLine}
use Rattle.thm_ucp_receiver.specs.Refusals.{ReceiverRefusesWhen}
use Rattle.thm_ucp_receiver.specs.Slice.{LineOfSlices, SliceFlagClears, SliceIsCall}
use Rattle.c_ucp_receiver.specs.Numbers.{ReceivesNumbers, TakesNumbers}
use Rattle.thm_c_ucp.specs.Receiver.{LinkedLines, LinkedAnswersByHistory, LinkedStretchIsAnswered, LinkedCountsByHistory, LinkedStoreByHistory, LinkedFlagClears, LinkedLaterOnly, LinkedPutOutIsFrame, LinkedFrameIsPutOut, LinkedReceiverLists}
use Rattle.thm_c_ucp.specs.Refusals.{LinkedReceiverRefusesWhen}
use Rattle.thm_c_ucp.specs.Slices.{LinkedSliceLines, LinkedSliceTakesAll, LinkedSliceFlagClears, LinkedSliceIsCall}
use Rattle.thm_c_ucp.specs.Writer.{LinkedWriter, LinkedWriterRefuses, LinkedWriterLists}
use Rattle.thm_c_ucp.specs.Lines.{EveryLinkedLine}
use Rattle.thm_c_ucp.specs.Delivery.{DeliversLinked, LinkedDeliveredWritesBack}
use Rattle.demands.specs.LinkedMavlink.{MavlinkReaderRefuses, MavlinkWriterRefuses, MavlinkIdRefuses}
use Rattle.thm_ucp_receiver.specs.Promises.{AnswersAs, AnswersByHistory, StretchIsAnswered, CountsByHistory, EveryOctetCounted, StoreClean, StoreByHistory, HuntingStoresNothing, FlagClears, LaterOnly, PutOutIsFrame, FrameIsPutOut, EndsIn, carrying}

-- The numbers that stand behind the refusals' names are those of document 01's table.
pub record TableNumbers : Type 0 where
  pub receiver :
      (because.bad_escape ≡ 1) × (because.escape_before_flag ≡ 2) × (because.too_long ≡ 3) × (because.too_short ≡ 4)
      × (because.wrong_check ≡ 5) × (because.room ≡ 6)
  pub writers : (because.body_length ≡ 7) × (because.output_length ≡ 8)
  pub messages : (because.unknown_id ≡ 10) × (because.message_length ≡ 11) × (because.fixed ≡ 12) × (because.field ≡ 13)
  pub mavlink :
      (because.mavlink_short ≡ 20) × (because.mavlink_start ≡ 21) × (because.mavlink_unknown_id ≡ 22) × (because.mavlink_length ≡ 23)
      × (because.mavlink_wrong_check ≡ 24) × (because.mavlink_field ≡ 25)

-- an answer of the receiver that is no body: a refusal's number is of 1 to 6, and neither a refusal nor silence changes the output
pub record RefusalOrSilence (given : ReceiverAnswer) (output output_then : List ℕ) : Type 0 where
  pub refuses : (number : ℕ) → given ≡ refusal number → (1 ≤ number) × (number ≤ 6) × (output_then ≡ output)
  pub silent : given ≡ nothing → output_then ≡ output

-- the same in C's numbers: kind 2 is a refusal, by its number; 0 silence; and any other is 1, a body
pub record LinkedRefusalOrSilence (kind value : ℕ) (output output_then : List ℕ) : Type 0 where
  pub refuses : kind ≡ 2 → (1 ≤ value) × (value ≤ 6) × (output_then ≡ output)
  pub silent : kind ≡ 0 → (value ≡ 0) × (output_then ≡ output)
  pub no_other : (kind ≡ 2 → ⊥) → (kind ≡ 0 → ⊥) → kind ≡ 1

-- Demand 1. Each clause stands below the tender's sentence, in its words. "Every call on every input returns, with no undefined
-- step": see above.
pub record Demand1 : Type 0 where
  -- "Bad input gets a numbered refusal under the conditions in document 01, or in a later change that adds to them, and no others. A
  -- refusal changes no byte of the lent output": the numbers; then each call, with the conditions that its room's specs/Refusals.antt
  -- spells, each with those before it in the order of tests not met. Wider than 01's rows, by docs/DECISIONS.md, are 10 and 22 of a
  -- linked reader of one kind, for another kind's ID too, and 13 for an uplink's payload of another length
  pub numbers : TableNumbers
  -- ---- the frame writer: 7, then 8
  pub writer_refuses7 :
      (body output after : List ℕ) (r : Written) → WritesFrame body output r after
      → (writer_answer r ≡ refused because.body_length) ↔ WrongBodyLength body
  pub writer_refuses8 :
      (body output after : List ℕ) (r : Written) → WritesFrame body output r after
      → (writer_answer r ≡ refused because.output_length) ↔ NoRoomForFrame body output
  pub writer_refuses :
      (body output after : List ℕ) (r : Written) (number : ℕ) → WritesFrame body output r after → writer_answer r ≡ refused number
      → ((number ≡ because.body_length) ⊎ (number ≡ because.output_length)) × (after ≡ output)
  pub linked_writer_refuses : LinkedWriterRefuses
  -- any other writer too, whatever it writes
  pub refusal_writes_nothing :
      (due : WriterAnswer) (octets output after : List ℕ) (r : Written) (number : ℕ) → Writing due octets output r after
      → writer_answer r ≡ refused number → after ≡ output
  -- and whatever number a refusal has
  pub refusal_leaves_output :
      (due : WriterAnswer) (octets output : List ℕ) (number : ℕ) → due ≡ refused number → output_after octets output due ≡ output
  -- ---- messages of the UCP line: readers, 10 to 13; writers, 13, then 8; sends, 13, then as the frame writer
  pub message_reader_refuses :
      (body : List ℕ) (r : Reads.Read) (number : ℕ) → Reads.Reads body r
      → (Reads.reader_answer r ≡ Reads.refused number)
      ↔ ((number ≡ Reads.refusal_in (kind_in body) body) × (10 ≤ number) × (number ≤ 13))
  pub message_reader_refuses10 :
      (body : List ℕ) (r : Reads.Read) → Reads.Reads body r
      → (Reads.reader_answer r ≡ Reads.refused because.unknown_id) ↔ UnknownId body
  pub message_reader_refuses11 :
      (body : List ℕ) (r : Reads.Read) → Reads.Reads body r
      → (Reads.reader_answer r ≡ Reads.refused because.message_length) ↔ WrongMessageLength body
  pub message_reader_refuses12 :
      (body : List ℕ) (r : Reads.Read) → Reads.Reads body r
      → (Reads.reader_answer r ≡ Reads.refused because.fixed) ↔ WrongFixedOctet body
  pub message_reader_refuses13 :
      (body : List ℕ) (r : Reads.Read) → Reads.Reads body r
      → (Reads.reader_answer r ≡ Reads.refused because.field) ↔ FieldOutsideRange body
  pub message_writer_refuses :
      (m : ucp.Message) (payload output after : List ℕ) (r : Written) (number : ℕ)
      → Message.WritesBody (message_fits m payload) (message_body m payload) output r after
      → (writer_answer r ≡ refused number)
      ↔ (((number ≡ because.field) × (message_fits m payload ≡ false))
      ⊎ ((number ≡ because.output_length) × (message_fits m payload ≡ true) × (length output < length (message_body m payload))))
  pub message_send_refuses :
      (m : ucp.Message) (payload buffer after : List ℕ) (r : Written) (number : ℕ) → Sends m payload buffer r after
      → (writer_answer r ≡ refused number)
      ↔ (((number ≡ because.field) × (message_fits m payload ≡ false))
      ⊎ ((message_fits m payload ≡ true) × FrameWriterRefuses (message_body m payload) buffer number))
  -- of the linked calls, for each kind, with what was lent; and of the call that gives a body's ID
  pub linked_messages_refuse : LentRefusals
  pub linked_id_refuses : IdRefuses
  -- ---- MAVLink: readers, 20 to 25; writers, 25, then 8
  pub mavlink_reader_refuses :
      (input : List ℕ) (r : MavlinkRead) (number : ℕ) → MavlinkReads.mavlink_answer r ≡ read_due input
      → MavlinkReads.mavlink_answer r ≡ MavlinkReads.refused number → (20 ≤ number) × (number ≤ 25)
  pub mavlink_reader_refuses20 :
      (input : List ℕ) (r : MavlinkRead) → MavlinkReads.mavlink_answer r ≡ read_due input
      → (MavlinkReads.mavlink_answer r ≡ MavlinkReads.refused because.mavlink_short) ↔ MavlinkShort input
  pub mavlink_reader_refuses21 :
      (input : List ℕ) (r : MavlinkRead) → MavlinkReads.mavlink_answer r ≡ read_due input
      → (MavlinkReads.mavlink_answer r ≡ MavlinkReads.refused because.mavlink_start) ↔ MavlinkWrongStart input
  pub mavlink_reader_refuses22 :
      (input : List ℕ) (r : MavlinkRead) → MavlinkReads.mavlink_answer r ≡ read_due input
      → (MavlinkReads.mavlink_answer r ≡ MavlinkReads.refused because.mavlink_unknown_id) ↔ MavlinkUnknownId input
  pub mavlink_reader_refuses23 :
      (input : List ℕ) (r : MavlinkRead) → MavlinkReads.mavlink_answer r ≡ read_due input
      → (MavlinkReads.mavlink_answer r ≡ MavlinkReads.refused because.mavlink_length) ↔ MavlinkWrongLength input
  pub mavlink_reader_refuses24 :
      (input : List ℕ) (r : MavlinkRead) → MavlinkReads.mavlink_answer r ≡ read_due input
      → (MavlinkReads.mavlink_answer r ≡ MavlinkReads.refused because.mavlink_wrong_check) ↔ MavlinkWrongCheck input
  pub mavlink_reader_refuses25 :
      (input : List ℕ) (r : MavlinkRead) → MavlinkReads.mavlink_answer r ≡ read_due input
      → (MavlinkReads.mavlink_answer r ≡ MavlinkReads.refused because.mavlink_field) ↔ MavlinkOutsideRange input
  pub mavlink_writer_refuses :
      (m : mavlink.Message) (h : Header) (output after : List ℕ) (r : Written) (number : ℕ)
      → Writing (write_due m output) (message_frame m h) output r after
      → (writer_answer r ≡ refused number)
      ↔ (((number ≡ because.mavlink_field) × (in_range m ≡ false))
      ⊎ ((number ≡ because.output_length) × (in_range m ≡ true) × (length output < length (payload_of m) + 8)))
  pub linked_mavlink_readers_refuse : MavlinkReaderRefuses
  pub linked_mavlink_writers_refuse : MavlinkWriterRefuses
  pub linked_mavlink_id_refuses : MavlinkIdRefuses
  -- ---- the receiver, 1 to 6: each exactly when, of the stretch that a flag closes, as its octets stand on the line; and, by the octet and
  -- by the slice, from any record, no other number. (Which answer is due at all: `answers_by_history` of demand 2.)
  pub receiver_refuses_when : ReceiverRefusesWhen
  pub linked_receiver_refuses_when : LinkedReceiverRefusesWhen
  pub receiver_refuses :
      (receiver : Record) (store : List ℕ) (octet : ℕ) (output : List ℕ) (given : Received) (store_after output_then : List ℕ)
      → Receives receiver store octet output given store_after output_then
      → RefusalOrSilence (receiver_answer given.answer) output output_then
  pub slice_refuses :
      (receiver : Record) (store line output : List ℕ) (given : Taken) (store_after output_then : List ℕ)
      → Takes receiver store line output given store_after output_then
      → RefusalOrSilence (receiver_answer given.answer) output output_then
  pub linked_receiver_refuses :
      (store line : List ℕ) (octet : ℕ) (output : List ℕ) (kind value : ℕ) (store_after line_after output_then : List ℕ)
      → ReceivesNumbers store line octet output kind value store_after line_after output_then
      → LinkedRefusalOrSilence kind value output output_then
  pub linked_slice_refuses :
      (store line octets output : List ℕ) (kind value taken : ℕ) (store_after line_after output_then : List ℕ)
      → TakesNumbers store line octets output kind value taken store_after line_after output_then
      → LinkedRefusalOrSilence kind value output output_then
  -- "At every flag, line counts excepted, the store is all zero, the rest of the receiver's record is one fixed value"
  pub flag_clears : FlagClears
  pub slice_flag_clears : SliceFlagClears
  pub linked_flag_clears : LinkedFlagClears
  pub linked_slice_flag_clears : LinkedSliceFlagClears
  -- document 01 on the store: before the first flag nothing, then the open stretch unstuffed as far as its first fault, and zero behind
  pub store_by_history : StoreByHistory
  pub hunting_stores_nothing : HuntingStoresNothing
  pub store_clean : StoreClean
  pub linked_store_by_history : LinkedStoreByHistory
  -- "and what the line answers from there on depends only on later bytes, for the same room lent"
  pub later_only : LaterOnly
  pub linked_later_only : LinkedLaterOnly
  -- ---- lists of linked calls are lines, lines driven by slices, and the writer's lists, in C's numbers: so all that is said of those
  -- here holds of them
  pub linked_receiver_is_line : LinkedLines
  pub linked_slices_are_line : LinkedSliceLines
  pub linked_writer_is_writer : LinkedWriter

-- Demand 2. "Frames, checks and messages are those of the GDL90 public document, the maker's UCP control document and its MAVLink
-- pages, as document 01 states them."
pub record Demand2 : Type 0 where
  -- the check of every body is the remainder: the body as a polynomial is the quotient times the generator plus it, and its degree
  -- is under 16; MAVLink's is what 001's code computes
  pub check_is_remainder :
      (body : List ℕ)
      → (polynomial 0 (bits_of_octets body) ≡ bit_xor (times_generator 0 (quotient (bits_of_octets body))) (frame_check body))
      × (frame_check body < degree16)
  pub x25_is_code : (octets : List ℕ) → Octets octets → crc_calculate octets ≡ x25 octets
  -- a body of 1 to 436 octets with room for its frame is written, and that exactly (of the linked call: `linked_writer_refuses`)
  pub writes :
      (body output after : List ℕ) (r : Written) → WritesFrame body output r after
      → RoomForFrame body output
      → (writer_answer r ≡ wrote (length (frame body)))
      × (after ≡ frame body ++ drop (length (frame body)) output)
      × (length (frame body) ≤ longest_frame)
  -- every call of the receiver answers as the rules say of the history, and a flag that closes a stretch with an octet in it is answered
  pub answers_by_history : AnswersByHistory
  pub stretch_is_answered : StretchIsAnswered
  pub linked_answers_by_history : LinkedAnswersByHistory
  pub linked_stretch_is_answered : LinkedStretchIsAnswered
  -- a line that is taken in slices is such a line of calls by the octet, with the same answers, outputs and records; a slice is taken
  -- up to the first octet that brings an answer, or whole
  pub slices_are_calls : LineOfSlices
  pub slice_ends_as_call : SliceIsCall
  pub linked_slice_ends_as_call : LinkedSliceIsCall
  pub linked_slice_takes_all : LinkedSliceTakesAll
  -- "each frame delivered writes back to the same bytes", and each frame written is delivered
  pub delivered_is_frame : PutOutIsFrame
  pub delivered_writes_back : DeliveredWritesBack
  pub frame_is_delivered : FrameIsPutOut
  pub linked_delivered_is_frame : LinkedPutOutIsFrame
  pub linked_delivered_writes_back : LinkedDeliveredWritesBack
  pub linked_frame_is_delivered : LinkedFrameIsPutOut
  -- "Every byte received on the UCP line is counted once, under the class its history gives"
  pub counts_by_history : CountsByHistory
  pub every_octet_counted : EveryOctetCounted
  pub linked_counts_by_history : LinkedCountsByHistory
  -- "Each written message reads back equal", and each accepted one writes back to the same octets, on both lines. What a message has
  -- to be, to read back equal, is met by every one that is read: its numbers are those of its types
  pub message_reads_back : message-trips.MessageReadsBack
  pub message_writes_back : message-trips.MessageWritesBack
  pub uplink_reads_back : message-trips.UplinkReadsBack
  pub message_read_is_typed : ReadIsTyped
  pub mavlink_reads_back : mavlink-trips.MavlinkReadsBack
  pub mavlink_writes_back : mavlink-trips.MavlinkWritesBack
  pub mavlink_read_is_typed : mavlink-trips.MavlinkReadIsTyped
  -- of the linked calls, for each kind: by `ReadsInto` and `WritesStructBody` (c_lent), by `ReadsMavlink` and `WritesMavlinkForC`
  pub lent_messages_read_and_write_back : LentRoundTrips
  pub lent_mavlink_reads_back : LentMavlinkReadsBack
  pub lent_mavlink_writes_back : LentMavlinkWritesBack
  -- a message sent on the UCP line is delivered, and means the same: sent and received by the Rattle crates; sent by the linked call
  -- (`SendsStruct` of c_lent) and received by either; and its linked reader gives the same struct
  pub sent_is_delivered : SentIsDelivered
  pub lent_message_sent_is_delivered : LentSentIsDelivered DeliversOnLine
  pub linked_message_sent_is_delivered : LentSentIsDelivered DeliversLinked

-- The receiver's part of demand 3, one claim about whole lists: from a fresh receiver every call answers as the rules say, and
-- where the list ends in the frame carrying one of two such bodies with the other's check, the last call answers 5.
abbrev pub ReceiverLists : Type 0
ReceiverLists =
    (calls : List Observed) → Line calls
    → ((before after : List Observed) (o : Observed) → calls ≡ before ++ o ∷ after
    → AnswersAs (answer (map call_of before) (call_of o)) o)
    × ((before : List Observed) (last : Observed) → calls ≡ before ++ last ∷ []
    → (a b : List ℕ) → TwoBodies a b → 1 ≤ length a → length a ≤ longest_body → AtMostThreeBits a b ⊎ Within16Bits a b
    → EndsIn (carrying a b) (up_to before last)
    → receiver_answer last.given.answer ≡ refusal because.wrong_check)

-- Demand 3.
pub record Demand3 : Type 0 where
  -- "Take any two different message bodies of equal length, 1 to 436 bytes. If they differ in at most three bits, or all differing bits
  -- lie in 16 consecutive bits counted most significant first, their GDL90 checks differ"
  pub check : Strength
  -- "So a frame carrying one of them with the other's check gets refusal 5, whatever bytes the line brought before it and whatever
  -- room is lent"
  pub receiver : ReceiverLists
  -- "for every two lists of calls to the frame writer, refused ones included: if the bodies accepted aren't the same list, the line
  -- bytes aren't the same either"
  pub writer : WriterLists
  -- the same two of lists of linked calls
  pub linked_receiver : LinkedReceiverLists
  pub linked_writer : LinkedWriterLists

-- The ranges that document 02 changed: what reader and writer test, of every message that has such a field, both ways, and by example.
-- Request c, the squawk; request e, the emitter.
pub record ChangedRanges : Type 0 where
  pub squawks : SquawkRanges
  pub digit8 : Refuses1280
  pub emitters : EmitterRanges
  pub obstacles : Obstacles

-- What ties the definitions to the papers and to the header, and what shows that the demands' premises are met by some calls, and not
-- by all. (docs/ASSURANCE.md lists each premise and what ties it.)
pub record Examples : Type 0 where
  -- ---- the papers' own: 01's "Frames to try" that are marked P; 001's two packets
  pub frames : FrameExamples
  pub flipped_bit : DataOctetBecomesFlag
  pub packets : PacketExamples
  -- ---- each kind of message: octets that carry values, values that fit, and values that do not, but for 0, 11, 44, 66 and 203, of
  -- which every value fits; what raw numbers mean
  pub ucp_kinds : UcpKindExamples
  pub mavlink_kinds : MavlinkKindExamples
  -- ---- C: each message struct has its fields, by name, at their offsets; the line, the answers, a measure and the failures have their
  -- numbers in the header's order
  pub structs : StructExamples
  pub numbers : NumberExamples
  -- ---- premises: bodies at each edge of demand 3; every list of octets is a line and a linked line, and every list of octets and
  -- slices is one of linked calls; a line that ends in a frame, a stretch that is open, a line in slices of which one is answered,
  -- calls of the writer of which one is accepted; octets of each message struct that its calls accept, and, but for the kinds above,
  -- refuse
  pub bodies : PremisesMet
  pub lines : EveryLine
  pub linked_lines : EveryLinkedLine
  pub ends_in : EndsInMet
  pub stretches : StretchMet
  pub slice_line : SliceLineMet
  pub writer_calls : WriterCallMet
  pub struct_premises : StructPremises
