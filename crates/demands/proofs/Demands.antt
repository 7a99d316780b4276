-- The demands, from what the crates below prove. Assumes nothing.
use mathlib.Core.Path.{◌≡◌, refl, sym, ap, subst, ◌∙◌}
use mathlib.Core.Bool.{Bool, true, false}
use mathlib.Core.List.{List}
use Prim.Native.Nat.{ℕ, ◌≤◌, ◌<◌}
use native.Mathlib.Omega.{arith}
use mathlib.Core.Logic.{◌↔◌, ◌⊎◌, inl, inr}
use borrow.Author.Tests.{eqb-true, ne_eqb}
use lib.Bits.{bit_xor}
use lib.Dec.{eqb}
use lib.ListN.{length}
use Rattle.crc_polynomial.specs.Polynomial.{bits_of_octets, polynomial, quotient, times_generator, degree16}
use Rattle.crc_polynomial.proofs.Laws.{divides}
use Rattle.crc_gdl90.specs.Check.{frame_check}
use Rattle.crc_x25.proofs.CrcCode.{by_code}
use Rattle.ucp_frame.specs.Frame.{frame}
use Rattle.ucp_frame.specs.Stretch.{Verdict, silent, refused, delivered}
use Rattle.ucp_frame.proofs.Frame.{frame_length_longest}
use Rattle.output_writing.specs.Writing as writer
use Rattle.output_writing.specs.Writing.{output_after}
use Rattle.ucp_writer.specs.Room.{frame_due}
use Rattle.ucp_writer.specs.Refusals.{FrameWriterRefuses}
use Rattle.ucp_writer.specs.Sends.{send_due}
use Rattle.refusals.specs.Numbers as because
use Rattle.std.specs.Prelude.{None}
use Rattle.c_ucp_receiver.proofs.Numbers.{refusal_told}
use Rattle.c_ucp_receiver.specs.Numbers.{answer_in, answer_value, OwnNumbers}
use Rattle.thm_mavlink_messages.proofs.Tabled.{tabled_mavlink}
use Rattle.thm_mavlink_messages.proofs.Examples as packet-examples
use Rattle.thm_mavlink_messages.proofs.RoundTrips as mavlink-trips
use Rattle.thm_c_mavlink.proofs.ReadBack.{lent_mavlink_reads_back}
use Rattle.thm_c_mavlink.proofs.WriteBack.{lent_mavlink_writes_back}
use Rattle.thm_c_messages.proofs.EachKind.{lent_round_trips, lent_refusals, lent_sent_is_delivered, linked_sent_is_delivered}
use Rattle.thm_c_messages.proofs.Refusals.{id_refuses}
use Rattle.thm_c_messages.proofs.Tests.{no}
use Rattle.thm_ucp_messages.proofs.Delivery.{sent_is_delivered, delivered_writes_back}
use Rattle.thm_ucp_messages.proofs.ReadBack as message-read
use Rattle.thm_ucp_messages.proofs.ReadTyped.{read_is_typed}
use Rattle.thm_ucp_messages.proofs.WriteBack as message-write
use Rattle.ucp_messages.specs.Messages.{message_fits, message_body}
use Rattle.ucp_messages.specs.Kinds.{kind_in}
use Rattle.demands.proofs.MessageRefusals.{tabled_message, message_refused, mavlink_refused}
use Rattle.demands.proofs.ReaderRefusals as messages
use Rattle.demands.proofs.MavlinkRefusals as mavlink
use Rattle.demands.proofs.LinkedMavlink.{mavlink_reader_refuses, mavlink_writer_refuses, mavlink_id_refuses}
use Rattle.ucp_writer.proofs.room.Due.{refused_so, refused_7, refused_8, due_accepted}
use Rattle.ucp_receiver.specs.Answers.{ReceiverAnswer, nothing, refusal, receiver_answer, answer_for, output_at_flag}
use Rattle.crc_gdl90_strength.proofs.Caught.{strength}
use Rattle.crc_gdl90_strength.proofs.Premises.{premises_met}
use Rattle.thm_ucp_examples.proofs.Examples as frame-examples
use Rattle.thm_ucp_examples.proofs.LinePremises.{ends_in_met, stretch_met, slice_line_met, writer_call_met}
use Rattle.thm_kind_examples.proofs.Ucp as ucp-kinds
use Rattle.thm_kind_examples.proofs.Mavlink as mavlink-kinds
use Rattle.thm_kind_examples.proofs.Squawks as squawk-ranges
use Rattle.thm_kind_examples.proofs.Emitters as emitter-ranges
use Rattle.thm_c_examples.proofs.Structs.{struct_examples}
use Rattle.thm_c_examples.proofs.Numbers.{number_examples}
use Rattle.thm_c_examples.proofs.Premises.{struct_premises}
use Rattle.thm_ucp_writer.proofs.Calls.{writer_lists}
use Rattle.thm_ucp_receiver.specs.Line.{Line}
use Rattle.thm_ucp_receiver.proofs.Promises.{answers, stretch_is_answered, counts, every_octet_counted, store_clean, store_by_history, hunting_stores_nothing, flag_clears, later_only}
use Rattle.thm_ucp_receiver.proofs.Lines.{every_line}
use Rattle.thm_ucp_receiver.proofs.Refusals.{receiver_refuses_when}
use Rattle.thm_ucp_receiver.proofs.Slice.{line_of_slices, slice_flag_clears, slice_is_call}
use Rattle.thm_ucp_receiver.proofs.Frames.{put_out_is_frame, frame_is_put_out, wrong_check_refused}
use Rattle.thm_c_ucp.proofs.Receiver.{linked_lines, linked_answers, linked_stretch_is_answered, linked_counts, linked_store, linked_flag_clears, linked_later_only, linked_put_out_is_frame, linked_frame_is_put_out, linked_receiver_lists}
use Rattle.thm_c_ucp.proofs.Refusals.{linked_receiver_refuses_when}
use Rattle.thm_c_ucp.proofs.Slices.{linked_slice_lines, linked_slice_takes_all, linked_slice_flag_clears, linked_slice_is_call}
use Rattle.thm_c_ucp.proofs.Writer.{linked_writer, linked_writer_refuses, linked_writer_lists}
use Rattle.thm_c_ucp.proofs.Lines.{every_linked_line}
use Rattle.thm_c_ucp.proofs.Delivery.{linked_delivered_writes_back}
use Rattle.demands.specs.Demands.{ChangedRanges, TableNumbers, RefusalOrSilence, LinkedRefusalOrSilence, Demand1, Demand2, Demand3, ReceiverLists, Examples}
use Rattle.demands.proofs.Refusals.{Tabled, quiet, numbered, whole, tabled, tabled_slice}

-- an answer that is the one due is a refusal when that is
along : {A : Type 0} {answer due refusal : A} {Condition : Type 0} → answer ≡ due → (due ≡ refusal) ↔ Condition
    → (answer ≡ refusal) ↔ Condition
along d so = (λ e. so.0 (sym d ∙ e), λ c. d ∙ so.1 c)

check_is_remainder : (body : List ℕ)
    → (polynomial 0 (bits_of_octets body) ≡ bit_xor (times_generator 0 (quotient (bits_of_octets body))) (frame_check body))
    × (frame_check body < degree16)
unfolding frame_check
check_is_remainder body = let d = divides (bits_of_octets body) in (d.dividend, d.degree)

-- ---- one call of the receiver, by the octet or by the slice: a verdict that is tabled, the answer that is due for it, and the output

answer_refusal : (v : Verdict) (n : ℕ) (output : List ℕ) → Tabled v → answer_for v ≡ refusal n
    → (1 ≤ n) × (n ≤ 6) × (output_at_flag v output ≡ output)
answer_refusal _ n output quiet e = let z : ◌≡◌ {A = ℕ} 0 1 = cc in absurd (omega arith)
answer_refusal _ n output (numbered m least most) e =
    let same : m ≡ n = cc in
    (omega arith, omega arith, refl)
answer_refusal _ n output (whole octets) e = let z : ◌≡◌ {A = ℕ} 0 1 = cc in absurd (omega arith)

answer_nothing : (v : Verdict) (output : List ℕ) → answer_for v ≡ nothing → output_at_flag v output ≡ output
answer_nothing silent output e = refl
answer_nothing (refused n) output e = let z : ◌≡◌ {A = ℕ} 0 1 = cc in absurd (omega arith)
answer_nothing (delivered octets) output e = let z : ◌≡◌ {A = ℕ} 0 1 = cc in absurd (omega arith)

no_body : (v : Verdict) → Tabled v → {given : ReceiverAnswer} {output output_then : List ℕ} → given ≡ answer_for v
    → output_then ≡ output_at_flag v output → RefusalOrSilence given output output_then
no_body v t {output = output} d puts =
    record {
      refuses = λ number e.
          let p = answer_refusal v number output t (sym d ∙ e) in
          (p.0, p.1, puts ∙ p.2);
      silent = λ e. puts ∙ answer_nothing v output (sym d ∙ e);
    }

-- in numbers, which are those of what they stand for
linked_no_body : {line_after : List ℕ} {kind value : ℕ} {output output_then : List ℕ} → OwnNumbers line_after kind value
    → RefusalOrSilence (receiver_answer (answer_in kind value)) output output_then → LinkedRefusalOrSilence kind value output output_then
linked_no_body {kind = kind} {value = value} own so =
    record {
      refuses = λ e. so.refuses value (refusal_told own e);
      silent = λ e.
          let told : answer_in kind value ≡ None = ap (λ (n : ℕ). answer_in n value) e in
          (own.value ∙ ap answer_value told, so.silent (ap receiver_answer told));
      no_other = λ not-2 not-0. other (eqb kind 1) refl not-2 not-0;
    }
  where
    other : (one : Bool) → eqb kind 1 ≡ one → (kind ≡ 2 → ⊥) → (kind ≡ 0 → ⊥) → kind ≡ 1
    other true e not-2 not-0 = eqb-true kind 1 e
    other false e not-2 not-0 =
        absurd (not-0 (own.kind ∙ rw (e, ne_eqb kind 2 not-2)))

-- ---- one call of the sender

frame_refused : (body output : List ℕ) (number : ℕ) → (frame_due body output ≡ writer.refused number) ↔ FrameWriterRefuses body output number
frame_refused body output number = ((λ e. go e (refused_so body output number (sym e))), back)
  where
    go : frame_due body output ≡ writer.refused number → (number ≡ 7) ⊎ (number ≡ 8) → FrameWriterRefuses body output number
    go e (inl n) = inl (n, (refused_7 body output).0 (e ∙ ap writer.refused n))
    go e (inr n) = inr (n, (refused_8 body output).0 (e ∙ ap writer.refused n))

    back : FrameWriterRefuses body output number → frame_due body output ≡ writer.refused number
    back (inl h) = (refused_7 body output).1 h.1 ∙ ap writer.refused (sym h.0)
    back (inr h) = (refused_8 body output).1 h.1 ∙ ap writer.refused (sym h.0)

abbrev SendRefused : Bool → List ℕ → List ℕ → ℕ → Type 0
SendRefused fit body buffer number =
    ((number ≡ because.field) × (fit ≡ false)) ⊎ ((fit ≡ true) × FrameWriterRefuses body buffer number)

send_refused : (fit : Bool) (body buffer : List ℕ) (number : ℕ)
    → (send_due fit body buffer ≡ writer.refused number) ↔ SendRefused fit body buffer number
unfolding send_due
send_refused true body buffer number = (λ e. inr (refl, (frame_refused body buffer number).0 e), back)
  where
    back : SendRefused true body buffer number → frame_due body buffer ≡ writer.refused number
    back (inl h) = no (sym h.1)
    back (inr h) = (frame_refused body buffer number).1 h.1
send_refused false body buffer number = ((λ e. inl (cc, refl)), back)
  where
    back : SendRefused false body buffer number → writer.refused 13 ≡ writer.refused number
    back (inl h) = ap writer.refused (sym h.0)
    back (inr h) = no h.0

table_numbers : TableNumbers
table_numbers =
    record {
      receiver = (refl, refl, refl, refl, refl, refl);
      writers = (refl, refl);
      messages = (refl, refl, refl, refl);
      mavlink = (refl, refl, refl, refl, refl, refl);
    }

pub demand1 : Demand1
demand1 =
    record {
      numbers = table_numbers;
      writer_refuses7 = λ body output after r w. rw w.answers (refused_7 body output);
      writer_refuses8 = λ body output after r w. rw w.answers (refused_8 body output);
      writer_refuses = λ body output after r number w e.
          (refused_so body output number (sym e ∙ w.answers), w.leaves ∙ ap (output_after (frame body) output) e);
      linked_writer_refuses = linked_writer_refuses;
      refusal_writes_nothing = λ due octets output after r number w e. w.leaves ∙ ap (output_after octets output) e;
      refusal_leaves_output = λ due octets output number e. ap (output_after octets output) e;
      message_reader_refuses = λ body r number d. along d (tabled_message (kind_in body) body number);
      message_reader_refuses10 = λ body r d. along d (messages.exactly_10 body);
      message_reader_refuses11 = λ body r d. along d (messages.exactly_11 body);
      message_reader_refuses12 = λ body r d. along d (messages.exactly_12 body);
      message_reader_refuses13 = λ body r d. along d (messages.exactly_13 body);
      message_writer_refuses = λ m payload output after r number w.
          along w.answers (message_refused (message_fits m payload) (message_body m payload) output number);
      message_send_refuses = λ m payload buffer after r number w.
          along w.answers (send_refused (message_fits m payload) (message_body m payload) buffer number);
      linked_messages_refuse = lent_refusals;
      linked_id_refuses = id_refuses;
      mavlink_reader_refuses = λ input r number d e. tabled_mavlink input number (sym d ∙ e);
      mavlink_reader_refuses20 = λ input r d. along d (mavlink.exactly_20 input);
      mavlink_reader_refuses21 = λ input r d. along d (mavlink.exactly_21 input);
      mavlink_reader_refuses22 = λ input r d. along d (mavlink.exactly_22 input);
      mavlink_reader_refuses23 = λ input r d. along d (mavlink.exactly_23 input);
      mavlink_reader_refuses24 = λ input r d. along d (mavlink.exactly_24 input);
      mavlink_reader_refuses25 = λ input r d. along d (mavlink.exactly_25 input);
      mavlink_writer_refuses = λ m h output after r number w. along w.answers (mavlink_refused m output number);
      linked_mavlink_readers_refuse = mavlink_reader_refuses;
      linked_mavlink_writers_refuse = mavlink_writer_refuses;
      linked_mavlink_id_refuses = mavlink_id_refuses;
      receiver_refuses_when = receiver_refuses_when;
      linked_receiver_refuses_when = linked_receiver_refuses_when;
      receiver_refuses = λ receiver store octet output given store_after output_then m.
          no_body _ (tabled _ octet (length output)) m.answers m.puts;
      slice_refuses = λ receiver store line output given store_after output_then m.
          no_body _ (tabled_slice _ _ line (length output)) m.answers m.puts;
      linked_receiver_refuses = λ store line octet output kind value store_after line_after output_then m.
          linked_no_body m.written (no_body _ (tabled _ octet (length output)) m.received.answers m.received.puts);
      linked_slice_refuses = λ store line octets output kind value taken store_after line_after output_then m.
          linked_no_body m.written (no_body _ (tabled_slice _ _ octets (length output)) m.took.answers m.took.puts);
      flag_clears = flag_clears;
      slice_flag_clears = slice_flag_clears;
      linked_flag_clears = linked_flag_clears;
      linked_slice_flag_clears = linked_slice_flag_clears;
      store_by_history = store_by_history;
      hunting_stores_nothing = hunting_stores_nothing;
      store_clean = store_clean;
      linked_store_by_history = linked_store;
      later_only = later_only;
      linked_later_only = linked_later_only;
      linked_receiver_is_line = linked_lines;
      linked_slices_are_line = linked_slice_lines;
      linked_writer_is_writer = linked_writer;
    }

pub demand2 : Demand2
demand2 =
    record {
      check_is_remainder = check_is_remainder;
      x25_is_code = by_code;
      writes = λ body output after r w may.
          let e = w.answers ∙ due_accepted body output may.0 may.1 may.2 in
          (e, w.leaves ∙ ap (output_after (frame body) output) e, frame_length_longest body may.1);
      answers_by_history = answers;
      stretch_is_answered = stretch_is_answered;
      linked_answers_by_history = linked_answers;
      linked_stretch_is_answered = linked_stretch_is_answered;
      slices_are_calls = line_of_slices;
      slice_ends_as_call = slice_is_call;
      linked_slice_ends_as_call = linked_slice_is_call;
      linked_slice_takes_all = linked_slice_takes_all;
      delivered_is_frame = put_out_is_frame;
      delivered_writes_back = delivered_writes_back;
      frame_is_delivered = frame_is_put_out;
      linked_delivered_is_frame = linked_put_out_is_frame;
      linked_delivered_writes_back = linked_delivered_writes_back;
      linked_frame_is_delivered = linked_frame_is_put_out;
      counts_by_history = counts;
      every_octet_counted = every_octet_counted;
      linked_counts_by_history = linked_counts;
      message_reads_back = message-read.written_reads_back;
      message_writes_back = message-write.accepted_writes_back;
      uplink_reads_back = message-read.uplink_reads_back;
      message_read_is_typed = read_is_typed;
      mavlink_reads_back = mavlink-trips.written_reads_back;
      mavlink_writes_back = mavlink-trips.accepted_writes_back;
      mavlink_read_is_typed = mavlink-trips.read_is_typed;
      lent_messages_read_and_write_back = lent_round_trips;
      lent_mavlink_reads_back = lent_mavlink_reads_back;
      lent_mavlink_writes_back = lent_mavlink_writes_back;
      sent_is_delivered = sent_is_delivered;
      lent_message_sent_is_delivered = lent_sent_is_delivered;
      linked_message_sent_is_delivered = linked_sent_is_delivered;
    }

receiver_lists : ReceiverLists
receiver_lists calls l = (
  (λ before after o e. answers before after o (subst Line e l)),
  λ before last e a b t least most so ends.
      wrong_check_refused a b (record { least = least; most = most }) (strength a b t least most so) before last (subst Line e l) ends,
)

pub demand3 : Demand3
demand3 =
    record {
      check = strength;
      receiver = receiver_lists;
      writer = writer_lists;
      linked_receiver = linked_receiver_lists;
      linked_writer = linked_writer_lists;
    }

pub changed_ranges : ChangedRanges
changed_ranges =
    record {
      squawks = squawk-ranges.ranges;
      digit8 = squawk-ranges.examples;
      emitters = emitter-ranges.ranges;
      obstacles = emitter-ranges.examples;
    }

pub examples : Examples
examples =
    record {
      frames = frame-examples.examples;
      flipped_bit = frame-examples.data_octet_becomes_flag;
      packets = packet-examples.examples;
      ucp_kinds = ucp-kinds.examples;
      mavlink_kinds = mavlink-kinds.examples;
      structs = struct_examples;
      numbers = number_examples;
      bodies = premises_met;
      lines = every_line;
      linked_lines = every_linked_line;
      ends_in = ends_in_met;
      stretches = stretch_met;
      slice_line = slice_line_met;
      writer_calls = writer_call_met;
      struct_premises = struct_premises;
    }
