-- A MAVLink message that a call for C read writes back to the same octets, proved once for every kind. Assumes nothing.
use mathlib.Core.Path.{◌≡◌, refl, sym, ap, ◌∙◌, subst}
use mathlib.Core.Bool.{Bool, true, false}
use mathlib.Core.List.{List}
use Prim.Native.Nat.{ℕ, zero, suc, ◌≤◌, ◌<◌}
use native.Mathlib.Omega.{arith}
use borrow.Author.Tests.{eqb-true, eqb-false}
use lib.Dec.{eqb}
use lib.ListN.{length, get_or}
use Rattle.crc_polynomial.specs.Polynomial.{Octets}
use Rattle.output_writing.specs.Writing.{WriterAnswer, wrote, writer_answer, output_after, written_numbers}
use Rattle.mavlink_frame.specs.declared.Header.{Header}
use Rattle.mavlink_frame.specs.Reader.{header_at, found}
use Rattle.mavlink_messages.specs.declared.Message.{Message}
use Rattle.mavlink_messages.specs.declared.Message.TheVariants.{DataStream, Static, Dynamic, Status, Traffic}
use Rattle.mavlink_messages.specs.Failures.{FailureAnswer}
use Rattle.mavlink_messages.specs.Messages as read_messages
use Rattle.mavlink_messages.specs.Messages.{MavlinkAnswer, id_of, in_range, read_due, write_due, message_frame}
use Rattle.mavlink_messages.proofs.Written.{address_fits, Given, given}
use Rattle.c_lent.specs.Structs.{Struct, held, TypedIn}
use Rattle.c_lent.proofs.Structs.{held_stored}
use Rattle.c_mavlink.specs.Structs.{header_struct, data_stream_struct, static_struct, dynamic_struct, status_struct, traffic_struct, message_stored}
use Rattle.c_mavlink.specs.Readers.{is_other, found_as, read_number, header_left, message_left, read_as}
use Rattle.c_mavlink.specs.Ids.{refusal_before_check, id_numbers, mavlink_id_due}
use Rattle.c_mavlink.specs.Writers.{WritesMavlinkForC}
use Rattle.c_mavlink.proofs.Agree.{header_held_stored}
use Rattle.c_mavlink.proofs.OneKind.{one_kind}
use Rattle.thm_mavlink_messages.specs.RoundTrips.{MavlinkTyped}
use Rattle.thm_mavlink_messages.proofs.Tabled.{tabled_mavlink}
use Rattle.thm_mavlink_messages.proofs.RoundTrips.{accepted_writes_back, read_typed_in_range, header_read}
use Rattle.thm_c_mavlink.specs.RoundTrips.{MavlinkStructWritesBack, LentMavlinkWritesBack}
use Rattle.thm_c_mavlink.proofs.ReadBack.{SameKind, data_stream_same, static_same, dynamic_same, status_same, traffic_same}

-- ---- a call that answers 0 read a message
id_so : (s : List ℕ) (n i u : ℕ) → id_numbers n s ≡ record { refusal = 0; id = i; used = u } → get_or s 5 0 ≡ i
id_so s zero i u e = ap (λ o. o.id) e
id_so s (suc n) i u e = let z : suc n ≡ 0 = ap (λ o. o.refusal) e in absurd (omega (arith, z))

record Meant (id : ℕ) (s : List ℕ) : Type 0 where
  header : Header
  used : ℕ
  message : Message
  failures : FailureAnswer
  whole : read_due s ≡ read_messages.means header used message failures
  same : read_as id s ≡ read_messages.means header used message failures
  own : id_of message ≡ id

module _ (id : ℕ) (s : List ℕ) (o : Octets s) (none : read_number (read_as id s) ≡ 0) where
  not_22 : read_as id s ≡ read_messages.refused 22 → ⊥
  not_22 e = let z : ◌≡◌ {A = ℕ} 22 0 = sym (ap read_number e) ∙ none in omega (arith, z)

  by_answer : read_as id s ≡ read_due s → (a : MavlinkAnswer) → read_due s ≡ a → Meant id s
  by_answer e (read_messages.refused n) d =
      let z : n ≡ 0 = sym (ap read_number (e ∙ d)) ∙ none in
      absurd (omega (arith, z, tabled_mavlink s n d))
  by_answer e (read_messages.means h used m f) d =
      let first : get_or s 5 0 ≡ id_of m = id_so s (refusal_before_check (found s)) (id_of m) used (one_kind.named s h used m f d).1 in
      record { header = h; used = used; message = m; failures = f; whole = d; same = e ∙ d; own = sym first ∙ its_own (eqb (get_or s 5 0) id) refl }
    where
      its_own : (t : Bool) → eqb (get_or s 5 0) id ≡ t → get_or s 5 0 ≡ id
      its_own true q = eqb-true _ _ q
      its_own false q = absurd (not_22 (one_kind.other id s (header_read s h used m f o d).1 (eqb-false _ _ q)))

  meant : Meant id s
  unfolding found_as
  meant = go (is_other id s) refl
    where
      go : (t : Bool) → is_other id s ≡ t → Meant id s
      go true e = absurd (not_22 (rw e))
      go false e = by_answer (rw e) (read_due s) refl

-- ---- a kind and its struct
record Is {A : Type 0} (kind : A → Message) (m : Message) : Type 0 where
  value : A
  is : m ≡ kind value

record BackKind {A : Type 0} (id : ℕ) (s : Struct A) (kind : A → Message) : Type 0 where
  forth : SameKind id s kind
  -- a message with the ID is one of the kind
  of_id : (m : Message) → id_of m ≡ id → Is kind m
  -- what has room in a payload has room in the struct
  roomy : (a : A) → MavlinkTyped (kind a) → in_range (kind a) ≡ true → TypedIn s a

struct_writes_back : {A : Type 0} (id : ℕ) (s : Struct A) (kind : A → Message) → BackKind id s kind → MavlinkStructWritesBack id s kind
struct_writes_back {A} id s kind ok input header_before message_before header message output after w o reading room call =
    let k = meant id input o (sym reading.answers) in
    let h : Header = k.header in
    let i = ok.of_id k.message k.own in
    let a : A = i.value in
    let right = read_typed_in_range input h k.used k.message k.failures o k.whole in
    let typed : TypedIn s a = ok.roomy a (subst MavlinkTyped i.is right.0) (ap in_range (sym i.is) ∙ right.1) in
    let message-is : held s message ≡ a =
    ap (held s) (reading.leaves_message ∙ ap (message_left message_before) k.same ∙ ap message_stored i.is ∙ ok.forth.stores a)
    ∙ held_stored s ok.forth.struct a typed in
    let sender : h ≡ header_at input = (header_read input h k.used k.message k.failures o k.whole).0 in
    let header-typed : TypedIn header_struct h = subst (TypedIn header_struct) (sym sender) ((o 2, (o 3, (o 4, tt))), refl) in
    let header_is : held header_struct header ≡ h =
    ap (held header_struct) (reading.leaves_header ∙ ap (header_left header_before) k.same) ∙ header_held_stored h header-typed in
    let again : WritesMavlinkForC k.message h output w after =
    subst (λ (m : Message). WritesMavlinkForC m h output w after) (ap kind message-is ∙ sym i.is)
    (subst (λ (j : Header). WritesMavlinkForC (kind (held s message)) j output w after) header_is call) in
    let due : WriterAnswer = write_due k.message output in
    let g : Given due = given k.message output in
    let used_is : (mavlink_id_due input).used ≡ k.used =
    ap (λ n. n.used) (one_kind.named input h k.used k.message k.failures k.whole).1 in
    let b = accepted_writes_back input h k.used k.message k.failures o k.whole output after g.answer
    (subst (λ (n : ℕ). n ≤ length output) used_is room)
    (record { answers = g.is; leaves = again.leaves ∙ ap (output_after (message_frame k.message h) output) (sym g.is) }) in
    let due-is : due ≡ wrote k.used = sym g.is ∙ ap writer_answer b.0 in
    rw used_is (again.answers ∙ ap written_numbers due-is, b.1)

-- ---- the kinds
data_stream_back : BackKind 66 data_stream_struct DataStream
data_stream_back = record { forth = data_stream_same; of_id = one; roomy = λ a t r. (t, refl) }
  where
    one : (m : Message) → id_of m ≡ 66 → Is DataStream m
    one (DataStream d) e = record { value = d; is = refl }
    one (Static s) e = absurd (omega (arith, e))
    one (Dynamic d) e = absurd (omega (arith, e))
    one (Status s) e = absurd (omega (arith, e))
    one (Traffic t) e = absurd (omega (arith, e))

static_back : BackKind 201 static_struct Static
static_back = record {
  forth = static_same;
  of_id = one;
  roomy = λ a t r.
      let u = t.1.1.1.1 in
      let address : a.icao < 0x1000000 = address_fits {m = Static a} {s = a} refl r in
      ((omega arith, (t.1.1.0, (t.1.1.1.0, (u.0, (u.1.0, (u.1.1.0, (u.1.1.1.0, (u.1.1.1.1.0, (t.1.0, tt))))))))), refl);
}
  where
    one : (m : Message) → id_of m ≡ 201 → Is Static m
    one (DataStream d) e = absurd (omega (arith, e))
    one (Static s) e = record { value = s; is = refl }
    one (Dynamic d) e = absurd (omega (arith, e))
    one (Status s) e = absurd (omega (arith, e))
    one (Traffic t) e = absurd (omega (arith, e))

dynamic_back : BackKind 202 dynamic_struct Dynamic
dynamic_back = record { forth = dynamic_same; of_id = one; roomy = λ a t r. (t, refl) }
  where
    one : (m : Message) → id_of m ≡ 202 → Is Dynamic m
    one (DataStream d) e = absurd (omega (arith, e))
    one (Static s) e = absurd (omega (arith, e))
    one (Dynamic d) e = record { value = d; is = refl }
    one (Status s) e = absurd (omega (arith, e))
    one (Traffic t) e = absurd (omega (arith, e))

status_back : BackKind 203 status_struct Status
status_back = record { forth = status_same; of_id = one; roomy = λ a t r. (t, refl) }
  where
    one : (m : Message) → id_of m ≡ 203 → Is Status m
    one (DataStream d) e = absurd (omega (arith, e))
    one (Static s) e = absurd (omega (arith, e))
    one (Dynamic d) e = absurd (omega (arith, e))
    one (Status s) e = record { value = s; is = refl }
    one (Traffic t) e = absurd (omega (arith, e))

traffic_back : BackKind 246 traffic_struct Traffic
traffic_back = record { forth = traffic_same; of_id = one; roomy = λ a t r. (t, refl) }
  where
    one : (m : Message) → id_of m ≡ 246 → Is Traffic m
    one (DataStream d) e = absurd (omega (arith, e))
    one (Static s) e = absurd (omega (arith, e))
    one (Dynamic d) e = absurd (omega (arith, e))
    one (Status s) e = absurd (omega (arith, e))
    one (Traffic t) e = record { value = t; is = refl }

pub lent_mavlink_writes_back : LentMavlinkWritesBack
lent_mavlink_writes_back = record {
  data_stream = struct_writes_back 66 data_stream_struct DataStream data_stream_back;
  static = struct_writes_back 201 static_struct Static static_back;
  dynamic = struct_writes_back 202 dynamic_struct Dynamic dynamic_back;
  status = struct_writes_back 203 status_struct Status status_back;
  traffic = struct_writes_back 246 traffic_struct Traffic traffic_back;
}
