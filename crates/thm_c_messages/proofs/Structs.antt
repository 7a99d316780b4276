-- Both round trips through a struct, and the delivery of what it holds, proved once for every format and every struct of the same values. Assumes nothing.
use mathlib.Core.Path.{◌≡◌, refl, sym, ap, ◌∙◌, subst}
use mathlib.Core.Bool.{true}
use mathlib.Core.List.{List, [], ◌∷◌, ◌++◌}
use Prim.Native.Nat.{ℕ, ◌<◌}
use native.Mathlib.Omega.{arith}
use lib.ListN.{length, get_or, take, length-append}
use Rattle.crc_polynomial.specs.Polynomial.{Octets}
use Rattle.field_format.specs.Format.{Row, made, Format, Right, HasId, value_in, body_of, fits, has_room, TypedAs, body_size}
use Rattle.field_format.proofs.Formats.{value_back, room, value_typed}
use Rattle.ucp_answers.specs.Refusals.{refusal_of}
use Rattle.ucp_answers.proofs.RoundTrips.{none_due, body_accepted, accepted_writes_back}
use Rattle.c_lent.specs.Structs.{Struct, RightStruct, struct_columns, struct_row_of, struct_size, stored, held, TypedIn}
use Rattle.c_lent.proofs.Structs.{held_stored, held_typed}
use Rattle.c_lent.specs.Reads.{ReadsInto}
use Rattle.thm_c_messages.specs.RoundTrips.{ReadsSame, StructReadsBack, StructWritesBack, StructRoundTrips}
use Rattle.thm_c_messages.specs.Delivery.{Delivering, StructSentIsDelivered}
use Rattle.thm_c_messages.proofs.Accepted.{accepted, writes, sent, fills, of_kind, kind_of}
use Rattle.thm_c_messages.proofs.Delivery.{DeliversFrames}
use borrow.Author.Tests.{eqb-true}

-- a kind's format and its struct are right, and of the same values
pub record SameValues {A : Type 0} (f : Format A) (s : Struct A) : Type 0 where
  pub format : Right f
  pub struct : RightStruct s
  -- a body has an ID
  pub some_id : 0 < length f.head
  -- members made into a value are its members
  pub again : (r : Row (struct_columns s.members)) → struct_row_of s.members (made (struct_columns s.members) s.value r) ≡ r
  -- C's types are those of the fields; what has room in a body has room in the struct
  pub typed : (a : A) → TypedIn s a → TypedAs f a
  pub roomy : (a : A) → TypedAs f a → has_room f a ≡ true → TypedIn s a

-- a body starts with its ID
head_first : (head rest : List ℕ) → 0 < length head → (0 < length (head ++ rest)) × (get_or (head ++ rest) 0 0 ≡ get_or head 0 0)
head_first [] rest h = absurd (omega arith)
head_first (x ∷ xs) rest h = (omega arith, refl)

id_of : (head body : List ℕ) → 0 < length head → get_or body 0 0 ≡ get_or head 0 0 → HasId head body
id_of [] body h e = absurd (omega arith)
id_of (x ∷ xs) body h e = e

module _ {A : Type 0} (f : Format A) (s : Struct A) (ok : SameValues f s) where
  -- what a struct holds, where it fits, is read back from its body
  body_reads_back : (message before left : List ℕ) (r : ℕ) → Octets message → length message ≡ struct_size s → fits f (held s message) ≡ true
      → ReadsInto f s (body_of f (held s message)) before r left → ReadsSame s message r left
  unfolding body_of
  body_reads_back message before left r is n fit reading =
      let a : A = held s message in
      let c : TypedIn s a = held_typed s ok.struct ok.again message is n in
      let t : TypedAs f a = ok.typed a c in
      let h = head_first f.head _ ok.some_id in
      let due = of_kind (get_or f.head 0 0) (body_of f a) (refusal_of f (body_of f a)) h.0 h.1 (body_accepted f ok.format a t fit) in
      let k = fills reading due in
      let same : left ≡ stored s a = k.1 ∙ ap (stored s) (value_back f ok.format a t (room f ok.format a t fit)) in
      (k.0, ap (held s) same ∙ held_stored s ok.struct a c, same)

  struct_reads_back : StructReadsBack f s
  struct_reads_back message output after before left w r is n call none reading =
      let l = accepted call none in
      body_reads_back message before left r is n l.fit (rw l.whole at reading)

  struct_writes_back : StructWritesBack f s
  unfolding refusal_of
  struct_writes_back body before message output after w is reading enough call =
      let k = kind_of (get_or f.head 0 0) body (refusal_of f body) reading.answers in
      let z = none_due _ _ _ k.1 in
      let n = eqb-true (length body) (body_size f) z.0 in
      let b = accepted_writes_back f ok.format body is (id_of f.head body ok.some_id k.0) k.1 in
      let t : TypedAs f (value_in f body) = value_typed f ok.format body is n in
      let same : held s message ≡ value_in f body =
      ap (held s) (fills reading (sym reading.answers)).1
      ∙ held_stored s ok.struct (value_in f body) (ok.roomy (value_in f body) t (room f ok.format (value_in f body) t b.0)) in
      writes body (ap (fits f) same ∙ b.0) (ap (body_of f) same ∙ b.1) enough call

  pub struct_round_trips : StructRoundTrips f s
  struct_round_trips = (struct_reads_back, struct_writes_back)

  -- on either line, where that delivers every frame
  pub struct_sent_is_delivered : (Delivers : Delivering) → DeliversFrames Delivers → StructSentIsDelivered Delivers f s
  struct_sent_is_delivered Delivers delivers message buffer after w is n call none =
      let body : List ℕ = body_of f (held s message) in
      let e = sent (fits f (held s message)) body buffer call none in
      subst (λ (octets : List ℕ). Delivers octets body (λ (b : List ℕ). (lent left : List ℕ) (r : ℕ) → ReadsInto f s b lent r left → ReadsSame s message r left))
      e.whole
      (delivers body (λ (b : List ℕ). (lent left : List ℕ) (r : ℕ) → ReadsInto f s b lent r left → ReadsSame s message r left) e.long
      (λ lent left r reading. body_reads_back message lent left r is n e.fit reading))
