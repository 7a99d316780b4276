-- Both round trips. Assumes nothing.
use mathlib.Core.Path.{◌≡◌, refl, sym, ap, ap₂, ◌∙◌, subst}
use mathlib.Core.Bool.{Bool, true, false, cond}
use mathlib.Core.List.{List, [], ◌∷◌, ◌++◌}
use Prim.Native.Nat.{ℕ, zero, suc, ◌+◌, ◌-◌, ◌≤◌}
use native.Mathlib.Omega.{arith}
use borrow.Author.Tests.{eqb-true, eq-eqb, le-ltb, lt-ltb}
use lib.Dec.{eqb, ltb}
use lib.ListN.{length, take, drop}
use lib.Seq.{take_at, get_or-drop}
use Rattle.field_format.specs.Format.{body_of, value_in}
use Rattle.crc_polynomial.specs.Polynomial.{Octets}
use Rattle.std.proofs.Common.{Ok, Err}
use Rattle.output_writing.specs.Writing.{Written, refused, wrote, writer_answer, room_for, output_after, Writing}
use Rattle.mavlink_frame.specs.declared.Kind.{Kind}
use Rattle.mavlink_frame.specs.declared.Header.{Header}
use Rattle.mavlink_frame.specs.Frame as kinds-as
use Rattle.mavlink_frame.specs.Reader as found_as
use Rattle.mavlink_frame.specs.Frame.{kind, mavlink_kind, mavlink_frame}
use Rattle.mavlink_frame.specs.Reader.{FrameAnswer, header_at, payload_at, found}
use Rattle.mavlink_messages.specs.Refusals.{HasHeader}
use Rattle.mavlink_frame.specs.Writer.{frame_by}
use Rattle.mavlink_frame.proofs.reader.Accepted.{Accepted, accepted}
use Rattle.mavlink_messages.specs.Failures.{FailureAnswer}
use Rattle.mavlink_messages.specs.declared.Message.{Message}
use Rattle.mavlink_messages.specs.declared.Message.TheVariants.{DataStream, Static, Dynamic, Status, Traffic}
use Rattle.mavlink_messages.specs.Messages as read_as
use Rattle.mavlink_messages.specs.DataStream66.{data_stream_format}
use Rattle.mavlink_messages.specs.Static201.{static_format}
use Rattle.mavlink_messages.specs.Dynamic202.{dynamic_format}
use Rattle.mavlink_messages.specs.Status203.{status_format}
use Rattle.mavlink_messages.specs.Traffic246.{traffic_format}
use Rattle.mavlink_messages.specs.Messages.{MavlinkAnswer, id_of, payload_of, in_range, failures_of, message_judged, payload_read, read_by, read_due, of_its_kind, write_due, message_frame}
use Rattle.thm_mavlink_messages.specs.RoundTrips.{MavlinkTyped, MavlinkReadIsTyped, MavlinkReadsBack, MavlinkWritesBack}
use Rattle.thm_mavlink_messages.proofs.Frames.{whole, whole_is, frame_found, frame_payload, accepted_frame, payload_length, frame_length}
use Rattle.field_format.proofs.Formats.{value_back, value_typed, body_again}
use Rattle.mavlink_messages.proofs.Written.{address_fits}
use Rattle.mavlink_messages.proofs.Formats.{data_stream_right, static_right, dynamic_right, status_right, traffic_right}

-- ---- the kind of a message, as the table has it
kind_for : Message → Kind
kind_for (DataStream d) = kind 66 6 148
kind_for (Static s) = kind 201 19 126
kind_for (Dynamic d) = kind 202 42 7
kind_for (Status s) = kind 203 1 85
kind_for (Traffic t) = kind 246 38 184

in_table : (m : Message) → mavlink_kind (kind_for m).id ≡ kinds-as.known (kind_for m)
unfolding mavlink_kind kind_for
in_table (DataStream d) = refl
in_table (Static s) = refl
in_table (Dynamic d) = refl
in_table (Status s) = refl
in_table (Traffic t) = refl

same_id : (m : Message) → (kind_for m).id ≡ id_of m
unfolding kind_for
same_id (DataStream d) = refl
same_id (Static s) = refl
same_id (Dynamic d) = refl
same_id (Status s) = refl
same_id (Traffic t) = refl

octets_length : (m : Message) → length (payload_of m) ≡ (kind_for m).length
unfolding kind_for body_of
octets_length (DataStream d) = refl
octets_length (Static s) = refl
octets_length (Dynamic d) = refl
octets_length (Status s) = refl
octets_length (Traffic t) = refl

frame_is : (m : Message) (h : Header) → message_frame m h ≡ mavlink_frame (kind_for m) h (payload_of m)
frame_is m h = ap (λ l. frame_by l h (payload_of m)) (ap mavlink_kind (sym (same_id m)) ∙ in_table m)

-- ---- a written frame reads back equal
payload_back : (m : Message) (h : Header) (used : ℕ) → MavlinkTyped m → in_range m ≡ true → payload_read (id_of m) h used (payload_of m) ≡ message_judged h used m
payload_back (DataStream d) h used t r = ap (λ x. message_judged h used (DataStream x)) (value_back data_stream_format data_stream_right d t refl)
payload_back (Static s) h used t r =
    ap (λ x. message_judged h used (Static x)) (value_back static_format static_right s t (lt-ltb s.icao 0x1000000 (address_fits {m = Static s} {s = s} refl r)))
payload_back (Dynamic d) h used t r = ap (λ x. message_judged h used (Dynamic x)) (value_back dynamic_format dynamic_right d t refl)
payload_back (Status s) h used t r = ap (λ x. message_judged h used (Status x)) (value_back status_format status_right s t refl)
payload_back (Traffic t) h used e r = ap (λ x. message_judged h used (Traffic x)) (value_back traffic_format traffic_right t e refl)

frame_back : (m : Message) (h : Header) (rest : List ℕ) → MavlinkTyped m → in_range m ≡ true
    → read_due (message_frame m h ++ rest) ≡ message_judged h ((kind_for m).length + 8) m
frame_back m h rest t r =
    let k = kind_for m in
    let p = payload_of m in
    let n : k.length + 8 - 8 ≡ k.length = omega arith in
    ap read_due (ap (λ (xs : List ℕ). xs ++ rest) (frame_is m h) ∙ whole_is k h p rest (in_table m) (octets_length m))
    ∙ ap (λ f. read_by f (whole k h p rest (in_table m) (octets_length m))) (frame_found k h p rest (in_table m) (octets_length m))
    ∙ ap₂ (λ (id : ℕ) (q : List ℕ). payload_read id h (k.length + 8) q) (same_id m)
    (ap (λ (j : ℕ). payload_at j (whole k h p rest (in_table m) (octets_length m))) n ∙ frame_payload k h p rest (in_table m) (octets_length m))
    ∙ payload_back m h (k.length + 8) t r

-- an accepted call: the message is in range, and the answer is the frame's length
accepted_call : (t : Bool) (octets : ℕ) (output : List ℕ) (n : ℕ)
    → wrote n ≡ cond t (room_for octets output) (refused 25) → (t ≡ true) × (n ≡ octets)
accepted_call false octets output n e = let z : ◌≡◌ {A = ℕ} 0 1 = cc in absurd (omega arith)
accepted_call true octets output n e = (refl, go (ltb (length output) octets) e)
  where
    go : (s : Bool) → wrote n ≡ cond s (refused 8) (wrote octets) → n ≡ octets
    go true f = let z : ◌≡◌ {A = ℕ} 0 1 = cc in absurd (omega arith)
    go false f = cc

pub written_reads_back : MavlinkReadsBack
written_reads_back m h output after n t w =
    let a = accepted_call (in_range m) (length (payload_of m) + 8) output n w.answers in
    let e : (kind_for m).length + 8 ≡ n = ap (λ (k : ℕ). k + 8) (sym (octets_length m)) ∙ sym a.1 in
    ap read_due w.leaves ∙ frame_back m h (drop n output) t a.0 ∙ ap (λ (k : ℕ). message_judged h k m) e ∙ rw a.0

-- ---- an accepted frame writes back to the same octets
record Carried (id : ℕ) (p : List ℕ) (h : Header) (used : ℕ) (h' : Header) (used' : ℕ) (m : Message) : Type 0 where
  pub named : id_of m ≡ id
  pub carries : payload_of m ≡ p
  pub typed : MavlinkTyped m
  pub ranges : in_range m ≡ true
  pub header : h ≡ h'
  pub ends : used ≡ used'

branch : {C : Type 0} (t : Bool) {x rest r : MavlinkAnswer} → cond t x rest ≡ r → (t ≡ true → x ≡ r → C) → (rest ≡ r → C) → C
branch true e met past = met refl e
branch false e met past = past e

module _ (id : ℕ) (p : List ℕ) (h : Header) (used : ℕ) (h' : Header) (used' : ℕ) (m : Message) (f : FailureAnswer)
    (o : Octets p) (fits : of_its_kind id (length p) ≡ true) where
  of_message : (n : ℕ) (m₀ : Message) → eqb id n ≡ true → id_of m₀ ≡ n → payload_of m₀ ≡ p → MavlinkTyped m₀
      → message_judged h used m₀ ≡ read_as.means h' used' m f → Carried id p h used h' used' m
  of_message n m₀ t i c told = go (in_range m₀) refl
    where
      go : (b : Bool) → in_range m₀ ≡ b → cond b (read_as.means h used m₀ (failures_of m₀)) (read_as.refused 25) ≡ read_as.means h' used' m f
          → Carried id p h used h' used' m
      go false r e = let z : ◌≡◌ {A = ℕ} 0 1 = cc in absurd (omega arith)
      go true r e =
          let same : m₀ ≡ m = cc in
          record {
            named = ap id_of (sym same) ∙ i ∙ sym (eqb-true _ _ t);
            carries = ap payload_of (sym same) ∙ c;
            typed = subst MavlinkTyped same told;
            ranges = ap in_range (sym same) ∙ r;
            header = cc;
            ends = cc;
          }

  -- the payload's length, by its ID
  sized : (n : ℕ) → eqb id n ≡ true → of_its_kind n (length p) ≡ true
  sized n t = subst (λ (i : ℕ). of_its_kind i (length p) ≡ true) (eqb-true _ _ t) fits

  carried : payload_read id h used p ≡ read_as.means h' used' m f → Carried id p h used h' used' m
  unfolding mavlink_kind
  carried e =
      branch (eqb id 66) e (λ t. of_message 66 (DataStream (value_in data_stream_format p)) t refl (body_again data_stream_format data_stream_right p o (eqb-true _ _ (sized 66 t)) tt refl) (value_typed data_stream_format data_stream_right p o (eqb-true _ _ (sized 66 t)))) (λ e.
      branch (eqb id 201) e (λ t. of_message 201 (Static (value_in static_format p)) t refl (body_again static_format static_right p o (eqb-true _ _ (sized 201 t)) tt refl) (value_typed static_format static_right p o (eqb-true _ _ (sized 201 t)))) (λ e.
      branch (eqb id 202) e (λ t. of_message 202 (Dynamic (value_in dynamic_format p)) t refl (body_again dynamic_format dynamic_right p o (eqb-true _ _ (sized 202 t)) tt refl) (value_typed dynamic_format dynamic_right p o (eqb-true _ _ (sized 202 t)))) (λ e.
      branch (eqb id 203) e (λ t. of_message 203 (Status (value_in status_format p)) t refl (body_again status_format status_right p o (eqb-true _ _ (sized 203 t)) tt refl) (value_typed status_format status_right p o (eqb-true _ _ (sized 203 t)))) (λ e.
      branch (eqb id 246) e (λ t. of_message 246 (Traffic (value_in traffic_format p)) t refl (body_again traffic_format traffic_right p o (eqb-true _ _ (sized 246 t)) tt refl) (value_typed traffic_format traffic_right p o (eqb-true _ _ (sized 246 t)))) (λ e.
      let z : ◌≡◌ {A = ℕ} 0 1 = cc in absurd (omega arith))))))

-- a part of octets has octets
take_octets : (n : ℕ) (xs : List ℕ) → Octets xs → Octets (take n xs)
take_octets zero xs o i = omega arith
take_octets (suc n) [] o i = omega arith
take_octets (suc n) (x ∷ xs) o zero = o 0
take_octets (suc n) (x ∷ xs) o (suc i) = take_octets n xs (λ j. o (suc j)) i

drop_octets : (n : ℕ) (xs : List ℕ) → Octets xs → Octets (drop n xs)
drop_octets n xs o i = rw get_or-drop (o (n + i))

is_wrote : (r : Written) (n : ℕ) → writer_answer r ≡ wrote n → r ≡ Ok n
is_wrote (Ok k) n e = let same : k ≡ n = cc in ap Ok same
is_wrote (Err refusal) n e = let z : ◌≡◌ {A = ℕ} 0 1 = cc in absurd (omega arith)

module _ (s : List ℕ) (h : Header) (used : ℕ) (m : Message) (f : FailureAnswer) (o : Octets s)
    (id : ℕ) (h₀ : Header) (used₀ : ℕ) (a : Accepted s id h₀ used₀)
    (e : payload_read id h₀ used₀ (payload_at (used₀ - 8) s) ≡ read_as.means h used m f) where
  size : used₀ - 8 ≡ a.kind.length
  size = let b = a.ends in omega arith

  payload_is : payload_at (used₀ - 8) s ≡ payload_at a.kind.length s
  payload_is = ap (λ (n : ℕ). payload_at n s) size

  is_carried : Carried id (payload_at (used₀ - 8) s) h₀ used₀ h used m
  is_carried =
      carried id (payload_at (used₀ - 8) s) h₀ used₀ h used m f (take_octets (used₀ - 8) (drop 6 s) (drop_octets 6 s o))
      (rw a.known (eq-eqb _ _ (ap length payload_is ∙ payload_length s id h₀ used₀ o a))) e

  -- the message's frame is the one that was read
  frame_again : message_frame m h ≡ mavlink_frame a.kind h₀ (payload_at a.kind.length s)
  frame_again =
      ap (λ l. frame_by l h (payload_of m)) (ap mavlink_kind is_carried.named ∙ a.known)
      ∙ ap₂ (λ (j : Header) (p : List ℕ). mavlink_frame a.kind j p) (sym is_carried.header) (is_carried.carries ∙ payload_is)

  used_is : length (payload_of m) + 8 ≡ used
  used_is =
      let l = ap length (is_carried.carries ∙ payload_is) ∙ payload_length s id h₀ used₀ o a in
      let b = a.ends in
      let c = is_carried.ends in
      omega arith

  frame_taken : take used s ≡ message_frame m h
  frame_taken =
      let l = frame_length a.kind h₀ (payload_at a.kind.length s) in
      let n = payload_length s id h₀ used₀ o a in
      let b = a.ends in
      let c = is_carried.ends in
      ap (take used) (accepted_frame s id h₀ used₀ o a)
      ∙ take_at (mavlink_frame a.kind h₀ (payload_at a.kind.length s)) (drop used₀ s) used (omega arith)
      ∙ sym frame_again

  written_again : (output after : List ℕ) (r : Written) → used ≤ length output
      → Writing (write_due m output) (message_frame m h) output r after
      → (r ≡ Ok used) × (after ≡ take used s ++ drop used output)
  written_again output after r room w =
      let u = used_is in
      let enough : length (payload_of m) + 8 ≤ length output = omega arith in
      let due : write_due m output ≡ wrote (length (payload_of m) + 8) = rw (is_carried.ranges, le-ltb _ _ enough) in
      let answer : writer_answer r ≡ wrote used = w.answers ∙ due ∙ ap wrote u in (
        is_wrote r used answer,
        w.leaves
            ∙ ap (λ q. output_after (message_frame m h) output q) answer
            ∙ ap (λ (xs : List ℕ). xs ++ drop used output) (sym frame_taken),
      )

pub accepted_writes_back : MavlinkWritesBack
accepted_writes_back s h used m f o e = go (found s) refl e
  where
    go : (l : FrameAnswer) → found s ≡ l → read_by l s ≡ read_as.means h used m f
        → (output after : List ℕ) (r : Written) → used ≤ length output
        → Writing (write_due m output) (message_frame m h) output r after
        → (r ≡ Ok used) × (after ≡ take used s ++ drop used output)
    go (found_as.refused number) q d = let z : ◌≡◌ {A = ℕ} 0 1 = cc in absurd (omega arith)
    go (found_as.frame id h₀ used₀) q d = written_again s h used m f o id h₀ used₀ (accepted s id h₀ used₀ q) d

-- ---- what the reader gives is a value of its type, and in range
pub read_typed_in_range : (s : List ℕ) (h : Header) (used : ℕ) (m : Message) (f : FailureAnswer) → Octets s
    → read_due s ≡ read_as.means h used m f → MavlinkTyped m × (in_range m ≡ true)
read_typed_in_range s h used m f o e = go (found s) refl e
  where
    go : (l : FrameAnswer) → found s ≡ l → read_by l s ≡ read_as.means h used m f → MavlinkTyped m × (in_range m ≡ true)
    go (found_as.refused number) q d = let z : ◌≡◌ {A = ℕ} 0 1 = cc in absurd (omega arith)
    go (found_as.frame id h₀ used₀) q d =
        let c = is_carried s h used m f o id h₀ used₀ (accepted s id h₀ used₀ q) d in
        (c.typed, c.ranges)

pub read_is_typed : MavlinkReadIsTyped
read_is_typed s h used m f o e = (read_typed_in_range s h used m f o e).0

-- ---- its header is that of the frame, which is there
pub header_read : (s : List ℕ) (h : Header) (used : ℕ) (m : Message) (f : FailureAnswer) → Octets s → read_due s ≡ read_as.means h used m f
    → (h ≡ header_at s) × HasHeader s
header_read s h used m f o e = go (found s) refl e
  where
    go : (l : FrameAnswer) → found s ≡ l → read_by l s ≡ read_as.means h used m f → (h ≡ header_at s) × HasHeader s
    go (found_as.refused number) q d = let z : ◌≡◌ {A = ℕ} 0 1 = cc in absurd (omega arith)
    go (found_as.frame id h₀ used₀) q d =
        let a = accepted s id h₀ used₀ q in
        (sym (is_carried s h used m f o id h₀ used₀ a d).header ∙ a.header, (a.starts, omega (arith, a.ends, a.room)))
