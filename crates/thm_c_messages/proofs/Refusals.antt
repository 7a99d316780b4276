-- Each call for C of a message of the UCP line gives each refusal exactly when it is due, proved once for every format and every
-- struct. Assumes nothing.
use mathlib.Core.Path.{◌≡◌, refl, sym, ap, ◌∙◌}
use mathlib.Core.Bool.{Bool, true, false, cond, ◌&&◌}
use mathlib.Core.List.{List}
use mathlib.Core.Logic.{◌⊎◌, inl, inr, ◌↔◌}
use Prim.Native.Nat.{ℕ, ◌≤◌, ◌<◌}
use native.Mathlib.Omega.{arith}
use borrow.Author.Tests.{ltb-true, ltb-false, eqb-true, eqb-false, ne_eqb}
use lib.Dec.{eqb, ltb}
use lib.ListN.{length, get_or, drop}
use Rattle.field_format.specs.Format.{Format, body_size, value_in, fits, body_of}
use Rattle.output_writing.specs.declared.OstrogoszWritten.{OstrogoszWritten}
use Rattle.output_writing.specs.Writing.{WriterAnswer, refused, wrote, output_after, written_numbers, WritingNumbers}
use Rattle.ucp_answers.specs.Refusals.{refusal_of}
use Rattle.ucp_answers.specs.Writes.{body_due}
use Rattle.ucp_frame.specs.Frame.{frame}
use Rattle.ucp_writer.specs.Sends.{send_due}
use Rattle.ucp_messages.specs.Uplink7.{uplink_fits, uplink_body}
use Rattle.ucp_messages.specs.declared.Kind.{Kind}
use Rattle.ucp_messages.specs.declared.Kind.TheVariants.{Uplink, Unknown}
use Rattle.ucp_messages.specs.Kinds.{is_some, is_known, kind_in}
use Rattle.ucp_messages.specs.Refusals.{UnknownId}
use Rattle.c_lent.specs.Structs.{Struct}
use Rattle.c_lent.specs.Reads.{has_id, refusal_as, FillsStruct}
use Rattle.c_ucp_ids.specs.declared.OstrogoszId.{OstrogoszId}
use Rattle.c_ucp_ids.specs.Ids.{id_due}
use Rattle.thm_c_ucp.proofs.Writer.{frame_refusals}
use Rattle.thm_c_messages.specs.Refusals.{OfAnotherId, OfItsId, ReaderRefusals, WriterRefusals, SendRefusals, StructRefuses, UplinkRefuses, IdRefuses}
use Rattle.thm_c_messages.proofs.Tests.{Is, is, is_lawful, unknown_so, no, Tested, tested_format, tested_uplink, exact}
use Rattle.ucp_messages.specs.declared.Message.{Message}
use Rattle.ucp_messages.proofs.Formats.{LawfulFormat, Lawful, formatted, uplink, unknown, lawful}

-- ---- reading
module _ (id : ℕ) (body : List ℕ) where
  other_id : has_id id body ≡ false → OfAnotherId id body
  other_id = go (ltb 0 (length body)) refl (eqb (get_or body 0 0) id) refl
    where
      go : (some : Bool) → ltb 0 (length body) ≡ some → (own : Bool) → eqb (get_or body 0 0) id ≡ own → (some && own) ≡ false → OfAnotherId id body
      go false s own o h = inl (omega (arith, ltb-false 0 (length body) s))
      go true s false o h = inr (eqb-false _ _ o)
      go true s true o h = no (sym h)

  its_id : has_id id body ≡ true → OfItsId id body
  its_id = go (ltb 0 (length body)) refl (eqb (get_or body 0 0) id) refl
    where
      go : (some : Bool) → ltb 0 (length body) ≡ some → (own : Bool) → eqb (get_or body 0 0) id ≡ own → (some && own) ≡ true → OfItsId id body
      go false s own o h = no h
      go true s false o h = no h
      go true s true o h = (omega (arith, ltb-true 0 (length body) s), eqb-true _ _ o)

  apart : {C : Type 0} → OfAnotherId id body → OfItsId id body → C
  apart (inl none) own = absurd (omega (arith, own.0))
  apart (inr differs) own = absurd (differs own.1)

  reader_refusals : (k : Kind) (refusal : ℕ) → Tested k body refusal → ReaderRefusals id k body (refusal_as id body refusal)
  unfolding refusal_as
  reader_refusals k refusal t = go (has_id id body) refl
    where
      go : (own : Bool) → has_id id body ≡ own → ReaderRefusals id k body (cond own refusal 10)
      go false h =
          let o = other_id h in
          record {
            refuses10 = (λ e. o, λ c. refl);
            refuses11 = (λ e. absurd (omega arith), λ c. apart o c.0);
            refuses12 = (λ e. absurd (omega arith), λ c. apart o c.0);
            refuses13 = (λ e. absurd (omega arith), λ c. apart o c.0);
            accepts = (λ e. absurd (omega arith), λ c. apart o c.0);
            no_other = inr (omega arith, omega arith);
          }
      go true h =
          let o = its_id h in
          let x = exact t in
          record {
            refuses10 = (λ e. absurd (x.0 e), λ c. apart c o);
            refuses11 = (λ e. (o, x.1.0 e), λ c. x.1.1 c.1);
            refuses12 = (λ e. let y = x.2.0 e in (o, y.0, y.1), λ c. x.2.1 (c.1, c.2));
            refuses13 = (λ e. let y = x.3.0 e in (o, y.0, y.1, y.2), λ c. x.3.1 (c.1, c.2, c.3));
            accepts = (λ e. let y = x.4.0 e in (o, y.0, y.1, y.2), λ c. x.4.1 (c.1, c.2, c.3));
            no_other = x.5;
          }

-- the number that is due, and a struct that is left where it is none
reads_so : {id : ℕ} {k : Kind} {body octets before after : List ℕ} {due answer : ℕ} → ReaderRefusals id k body due
    → FillsStruct due octets before answer after → ReaderRefusals id k body answer × ((answer ≡ 0 → ⊥) → after ≡ before)
reads_so so call =
    (rw call.answers so, λ some. call.leaves ∙ rw (ne_eqb _ 0 (λ z. some (call.answers ∙ z))))

-- ---- writing: the number for a field is not 0 and not 8
pub writer_refusals : (number : ℕ) → 8 < number → (fit : Bool) (size : ℕ) (octets output : List ℕ) (given : OstrogoszWritten) (after : List ℕ)
    → WritingNumbers (cond fit (cond (ltb (length output) size) (refused 8) (wrote size)) (refused number)) octets output given after
    → WriterRefusals number fit size octets output given after
writer_refusals number big fit size octets output given after call =
    go fit (ltb (length output) size) refl call.answers call.leaves
  where
    go : (f t : Bool) → ltb (length output) size ≡ t
        → given ≡ written_numbers (cond f (cond t (refused 8) (wrote size)) (refused number))
        → after ≡ output_after octets output (cond f (cond t (refused 8) (wrote size)) (refused number))
        → WriterRefusals number f size octets output given after
    go false t e a l =
        let r : given.refusal ≡ number = ap (λ (o : OstrogoszWritten). o.refusal) a in
        record {
          refuses_field = (λ h. refl, λ h. r);
          refuses8 = (λ h. absurd (omega arith), λ h. no h.0);
          accepts = (λ h. absurd (omega arith), λ h. no h.0);
          no_other = inr (inr r);
          writes = λ h. absurd (omega arith);
          leaves = λ h. (ap (λ (o : OstrogoszWritten). o.length) a, l);
        }
    go true true e a l =
        let r : given.refusal ≡ 8 = ap (λ (o : OstrogoszWritten). o.refusal) a in
        let short : length output < size = ltb-true _ _ e in
        record {
          refuses_field = (λ h. absurd (omega arith), λ h. no (sym h));
          refuses8 = (λ h. (refl, short), λ h. r);
          accepts = (λ h. absurd (omega arith), λ h. absurd (omega (arith, h.1)));
          no_other = inr (inl r);
          writes = λ h. absurd (omega arith);
          leaves = λ h. (ap (λ (o : OstrogoszWritten). o.length) a, l);
        }
    go true false e a l =
        let r : given.refusal ≡ 0 = ap (λ (o : OstrogoszWritten). o.refusal) a in
        let room : size ≤ length output = ltb-false _ _ e in
        record {
          refuses_field = (λ h. absurd (omega arith), λ h. no (sym h));
          refuses8 = (λ h. absurd (omega arith), λ h. absurd (omega (arith, h.1)));
          accepts = (λ h. (refl, room), λ h. r);
          no_other = inl r;
          writes = λ h. (ap (λ (o : OstrogoszWritten). o.length) a, l);
          leaves = λ h. absurd (h r);
        }

body_refusals : (fit : Bool) (body output : List ℕ) (given : OstrogoszWritten) (after : List ℕ)
    → WritingNumbers (body_due fit body output) body output given after → WriterRefusals 13 fit (length body) body output given after
unfolding body_due
body_refusals fit body output given after call = writer_refusals 13 (omega arith) fit (length body) body output given after call

-- ---- sending
pub send_refusals : (fit : Bool) (body buffer : List ℕ) (given : OstrogoszWritten) (after : List ℕ)
    → WritingNumbers (send_due fit body buffer) (frame body) buffer given after → SendRefusals fit body buffer given after
unfolding send_due
send_refusals true body buffer given after call =
    let so = frame_refusals body buffer given after call in
    record {
      refuses13 = (λ h. not_13 so.no_other h, λ h. no (sym h));
      leaves = λ h. no (sym h);
      frames = λ h. so;
    }
  where
    not_13 : {C : Type 0} → (given.refusal ≡ 0) ⊎ ((given.refusal ≡ 7) ⊎ (given.refusal ≡ 8)) → given.refusal ≡ 13 → C
    not_13 (inl e) h = absurd (omega arith)
    not_13 (inr (inl e)) h = absurd (omega arith)
    not_13 (inr (inr e)) h = absurd (omega arith)
send_refusals false body buffer given after call = record {
  refuses13 = (λ h. refl, λ h. ap (λ (o : OstrogoszWritten). o.refusal) call.answers);
  leaves = λ h. (ap (λ (o : OstrogoszWritten). o.length) call.answers, call.leaves);
  frames = λ h. no h;
}

-- ---- the three calls of a kind that has a format
pub struct_refuses : {A : Type 0} {k : Kind} (f : Format A) (s : Struct A) {message : A → Message} → LawfulFormat k f message
    → StructRefuses (get_or f.head 0 0) k f s
struct_refuses {k = k} f s l = (
  λ body before after answer call.
      reads_so
      (reader_refusals (get_or f.head 0 0) body k (refusal_of f body) (tested_format f k body l.size_is l.fixed_is (l.ranges_are body))) call,
  λ a output after given call. body_refusals (fits f a) (body_of f a) output given after call,
  λ a buffer after given call. send_refusals (fits f a) (body_of f a) buffer given after call,
)

pub uplink_refuses : UplinkRefuses
uplink_refuses = (
  λ body before after answer call. reads_so (reader_refusals 7 body Uplink _ (tested_uplink body)) call,
  λ payload output after given call. body_refusals (uplink_fits payload) (uplink_body payload) output given after call,
  λ payload buffer after given call. send_refusals (uplink_fits payload) (uplink_body payload) buffer given after call,
)

-- ---- the call for the ID
abbrev Decided : Kind → Type 0
Decided k = ((k ≡ Unknown) × (is_known k ≡ false)) ⊎ (Is k × (is_known k ≡ true))

decided : {k : Kind} → Lawful k → Decided k
decided (formatted f message l) = inr (is_lawful l, ap is_some l.id_is)
decided uplink = inr (is Uplink (omega arith), refl)
decided unknown = inl (refl, refl)

pub id_refuses : IdRefuses
unfolding id_due
id_refuses body given e = go (decided (lawful (kind_in body)))
  where
    go : Decided (kind_in body)
        → ((given.refusal ≡ 10) ↔ UnknownId body)
        × ((given.refusal ≡ 0) ↔ (UnknownId body → ⊥))
        × ((given.refusal ≡ 0) ⊎ (given.refusal ≡ 10))
        × (given.refusal ≡ 0 → given.id ≡ get_or body 0 0)
        × ((given.refusal ≡ 0 → ⊥) → given.id ≡ 0)
    go (inl u) =
        let d : given ≡ record { refusal = 10; id = 0 } = e ∙ rw u.1 in
        let r : given.refusal ≡ 10 = ap (λ (o : OstrogoszId). o.refusal) d in
        let so = (unknown_so body).0 u.0 in
        ((λ h. so, λ h. r), (λ h. absurd (omega arith), λ h. absurd (h so)), inr r, λ h. absurd (omega arith), λ h. ap (λ (o : OstrogoszId). o.id) d)
    go (inr k) =
        let d : given ≡ record { refusal = 0; id = get_or body 0 0 } = e ∙ rw k.1 in
        let r : given.refusal ≡ 0 = ap (λ (o : OstrogoszId). o.refusal) d in (
          (λ h. absurd (omega arith), λ h. absurd (k.0 ((unknown_so body).1 h))),
          (λ h u. k.0 ((unknown_so body).1 u), λ h. r),
          inl r,
          λ h. ap (λ (o : OstrogoszId). o.id) d,
          λ h. absurd (h r),
        )
