-- A MAVLink message that a call for C wrote reads back equal, proved once for every kind. Assumes nothing.
use mathlib.Core.Path.{◌≡◌, refl, sym, ap, ◌∙◌}
use mathlib.Core.Bool.{Bool, true, false, cond}
use mathlib.Core.List.{List}
use Prim.Native.Nat.{ℕ, ◌+◌}
use native.Mathlib.Omega.{arith}
use lib.Dec.{ltb}
use lib.ListN.{length}
use Rattle.field_format.specs.Format.{Row, made}
use Rattle.output_writing.specs.declared.OstrogoszWritten.{OstrogoszWritten}
use Rattle.std.proofs.Common.{Ok}
use Rattle.output_writing.specs.Writing.{WriterAnswer, refused, wrote, output_after, Writing, written_numbers}
use Rattle.mavlink_frame.specs.declared.Header.{Header}
use Rattle.mavlink_messages.specs.declared.Message.{Message}
use Rattle.mavlink_messages.specs.declared.Message.TheVariants.{DataStream, Static, Dynamic, Status, Traffic}
use Rattle.mavlink_messages.specs.Messages as read_messages
use Rattle.mavlink_messages.specs.Messages.{MavlinkAnswer, id_of, in_range, payload_of, failures_of, write_due, message_frame}
use Rattle.c_lent.specs.Structs.{Struct, RightStruct, struct_columns, struct_row_of, stored, held, TypedIn}
use Rattle.c_lent.proofs.Structs.{held_stored, held_typed}
use Rattle.c_mavlink.specs.Structs.{header_struct, data_stream_struct, static_struct, dynamic_struct, status_struct, traffic_struct, message_stored}
use Rattle.c_mavlink.specs.Readers.{read_number, header_left, message_left, read_as}
use Rattle.c_mavlink.specs.Writers.{WritesMavlinkForC}
use Rattle.c_mavlink.proofs.Agree.{header_right}
use Rattle.c_mavlink.proofs.OneKind.{one_kind}
use Rattle.thm_mavlink_messages.specs.RoundTrips.{MavlinkTyped}
use Rattle.thm_mavlink_messages.proofs.RoundTrips.{written_reads_back}
use Rattle.thm_c_mavlink.specs.RoundTrips.{MavlinkStructReadsBack, LentMavlinkReadsBack}

-- ---- an accepted call: the fields are in range, and the frame is there
record Left (m : Message) (h : Header) (output : List ℕ) (w : OstrogoszWritten) (after : List ℕ) : Type 0 where
  ranges : in_range m ≡ true
  written : Writing (write_due m output) (message_frame m h) output (Ok w.length) after

accepted : (m : Message) (h : Header) (output : List ℕ) (w : OstrogoszWritten) (after : List ℕ) → WritesMavlinkForC m h output w after
    → w.refusal ≡ 0 → Left m h output w after
accepted m h output w after call none =
    go (in_range m) refl (ltb (length output) (length (payload_of m) + 8)) refl
  where
    due : Bool → Bool → WriterAnswer
    due f t = cond f (cond t (refused 8) (wrote (length (payload_of m) + 8))) (refused 25)

    go : (f : Bool) → in_range m ≡ f → (t : Bool) → ltb (length output) (length (payload_of m) + 8) ≡ t → Left m h output w after
    go f p t q =
        let is : write_due m output ≡ due f t = λ i. cond (p i) (cond (q i) (refused 8) (wrote (length (payload_of m) + 8))) (refused 25) in
        by f t is (call.answers ∙ ap written_numbers is) p
      where
        by : (f t : Bool) → write_due m output ≡ due f t → w ≡ written_numbers (due f t) → in_range m ≡ f → Left m h output w after
        by true true is e p = absurd (omega (arith, none, ap (λ (o : OstrogoszWritten). o.refusal) e))
        by false t is e p = absurd (omega (arith, none, ap (λ (o : OstrogoszWritten). o.refusal) e))
        by true false is e p =
            let n : wrote w.length ≡ write_due m output = ap wrote (ap (λ (o : OstrogoszWritten). o.length) e) ∙ sym is in
            record { ranges = p; written = record { answers = n; leaves = call.leaves ∙ ap (output_after (message_frame m h) output) (sym n) } }

-- ---- a kind and its struct
pub record SameKind {A : Type 0} (id : ℕ) (s : Struct A) (kind : A → Message) : Type 0 where
  pub struct : RightStruct s
  pub again : (r : Row (struct_columns s.members)) → struct_row_of s.members (made (struct_columns s.members) s.value r) ≡ r
  pub named : (a : A) → id_of (kind a) ≡ id
  pub stores : (a : A) → message_stored (kind a) ≡ stored s a
  -- C's types are those of the fields
  pub typed : (a : A) → TypedIn s a → MavlinkTyped (kind a)

struct_reads_back : {A : Type 0} (id : ℕ) (s : Struct A) (kind : A → Message) → SameKind id s kind → MavlinkStructReadsBack id s kind
struct_reads_back {A} id s kind ok message header output after header_before message_before header_after message_after w r is n call none reading =
    let a : A = held s message in
    let h : Header = held header_struct header in
    let l = accepted (kind a) h output w after call none in
    let c : TypedIn s a = held_typed s ok.struct ok.again message is n in
    let t = ok.typed a c in
    let due = written_reads_back (kind a) h output after w.length t l.written in
    let read : read_as id after ≡ read_messages.means h w.length (kind a) (failures_of (kind a)) =
    ap (λ (k : ℕ). read_as k after) (sym (ok.named a)) ∙ (one_kind.named after h w.length (kind a) (failures_of (kind a)) due).0 in
    let same-header : header_after ≡ stored header_struct h = reading.leaves_header ∙ ap (header_left header_before) read in
    let same : message_after ≡ stored s a = reading.leaves_message ∙ ap (message_left message_before) read ∙ ok.stores a in (
      reading.answers ∙ ap read_number read,
      same-header,
      same,
      ap (held s) same ∙ held_stored s ok.struct a c,
      λ octets size. ap (held header_struct) same-header ∙ held_stored header_struct header_right h (held_typed header_struct header_right (λ x. refl) header octets size),
    )

-- ---- the kinds
pub data_stream_same : SameKind 66 data_stream_struct DataStream
data_stream_same = record {
  struct = record { sound = omega arith; back = λ a. refl };
  again = λ r. refl;
  named = λ a. refl;
  stores = λ a. refl;
  typed = λ a t. t.0;
}

pub static_same : SameKind 201 static_struct Static
static_same = record {
  struct = record { sound = omega arith; back = λ a. refl };
  again = λ r. refl;
  named = λ a. refl;
  stores = λ a. refl;
  typed = λ a t.
      let u = t.0 in
      let v = u.1.1.1 in
      (tt, (v.1.1.1.1.1.0, (u.1.0, (u.1.1.0, (v.0, (v.1.0, (v.1.1.0, (v.1.1.1.0, (v.1.1.1.1.0, tt)))))))));
}

pub dynamic_same : SameKind 202 dynamic_struct Dynamic
dynamic_same = record {
  struct = record { sound = omega arith; back = λ a. refl };
  again = λ r. refl;
  named = λ a. refl;
  stores = λ a. refl;
  typed = λ a t. t.0;
}

pub status_same : SameKind 203 status_struct Status
status_same = record {
  struct = record { sound = omega arith; back = λ a. refl };
  again = λ r. refl;
  named = λ a. refl;
  stores = λ a. refl;
  typed = λ a t. t.0;
}

pub traffic_same : SameKind 246 traffic_struct Traffic
traffic_same = record {
  struct = record { sound = omega arith; back = λ a. refl };
  again = λ r. refl;
  named = λ a. refl;
  stores = λ a. refl;
  typed = λ a t. t.0;
}

pub lent_mavlink_reads_back : LentMavlinkReadsBack
lent_mavlink_reads_back = record {
  data_stream = struct_reads_back 66 data_stream_struct DataStream data_stream_same;
  static = struct_reads_back 201 static_struct Static static_same;
  dynamic = struct_reads_back 202 dynamic_struct Dynamic dynamic_same;
  status = struct_reads_back 203 status_struct Status status_same;
  traffic = struct_reads_back 246 traffic_struct Traffic traffic_same;
}
