-- The readers of one kind and the reader of every kind. Assumes nothing.
use mathlib.Core.Path.{◌≡◌, refl, sym, ap, ◌∙◌}
use mathlib.Core.Bool.{Bool, true, false, cond, not, ◌&&◌}
use mathlib.Core.List.{List}
use Prim.Native.Nat.{ℕ, ◌+◌, ◌-◌}
use native.Mathlib.Omega.{arith}
use borrow.Author.Tests.{le-leb, leb-true, eq-eqb, ne_eqb, eqb-true}
use lib.Dec.{eqb, leb}
use lib.ListN.{length, get_or}
use Rattle.field_format.specs.Format.{value_in}
use Rattle.mavlink_frame.specs.declared.Header.{Header}
use Rattle.mavlink_frame.specs.Frame.{start}
use Rattle.mavlink_frame.specs.Reader as answered
use Rattle.mavlink_frame.specs.Reader.{FrameAnswer, payload_at, found}
use Rattle.mavlink_frame.proofs.reader.Accepted.{accepted}
use Rattle.mavlink_messages.specs.declared.Message.{Message}
use Rattle.mavlink_messages.specs.declared.Message.TheVariants.{DataStream, Static, Dynamic, Status, Traffic}
use Rattle.mavlink_messages.specs.DataStream66.{data_stream_format}
use Rattle.mavlink_messages.specs.Static201.{static_format}
use Rattle.mavlink_messages.specs.Dynamic202.{dynamic_format}
use Rattle.mavlink_messages.specs.Status203.{status_format}
use Rattle.mavlink_messages.specs.Traffic246.{traffic_format}
use Rattle.mavlink_messages.specs.Failures.{FailureAnswer}
use Rattle.mavlink_messages.specs.Messages.{MavlinkAnswer, refused, means, id_of, in_range, failures_of, message_judged, payload_read, read_by, read_due}
use Rattle.mavlink_messages.specs.Refusals.{HasHeader}
use Rattle.c_mavlink.specs.Readers.{is_other, found_as, read_as}
use Rattle.c_mavlink.specs.Ids.{refusal_before_check, id_numbers, mavlink_id_due}
use Rattle.c_mavlink.specs.OneKind.{OneKind}
use Rattle.c_mavlink.proofs.Readers.{as_found}

-- ---- which inputs are another kind's
last_false : (a b : Bool) → (a && (b && false)) ≡ false
last_false true true = refl
last_false true false = refl
last_false false b = refl

module _ (id : ℕ) (s : List ℕ) where
  not_other : is_other id s ≡ false → read_as id s ≡ read_due s
  not_other e = ap (λ (f : FrameAnswer). read_by f s) (as_found id s e)

  own : get_or s 5 0 ≡ id → read_as id s ≡ read_due s
  own e = not_other (rw (eq-eqb _ _ e) (last_false (leb 6 (length s)) (eqb (get_or s 0 0) start)))

  no_header : (HasHeader s → ⊥) → read_as id s ≡ read_due s
  no_header none = not_other (go (leb 6 (length s)) refl (eqb (get_or s 0 0) start) refl)
    where
      go : (a : Bool) → leb 6 (length s) ≡ a → (b : Bool) → eqb (get_or s 0 0) start ≡ b → (a && (b && not (eqb (get_or s 5 0) id))) ≡ false
      go true six true first = absurd (none (eqb-true _ _ first, leb-true _ _ six))
      go true six false first = refl
      go false six b first = refl

  other : HasHeader s → (get_or s 5 0 ≡ id → ⊥) → read_as id s ≡ refused 22
  unfolding found_as
  other there differs = rw (le-leb _ _ there.1, eq-eqb _ _ there.0, ne_eqb _ _ differs)

-- ---- what a payload is read as
branch : {C : Type 0} (t : Bool) {x rest r : MavlinkAnswer} → cond t x rest ≡ r → (t ≡ true → x ≡ r → C) → (rest ≡ r → C) → C
branch true e met past = met refl e
branch false e met past = past e

module _ (id : ℕ) (h₀ : Header) (used₀ : ℕ) (p : List ℕ) (h : Header) (used : ℕ) (m : Message) (f : FailureAnswer) where
  abbrev Named : Type 0
  Named = (id_of m ≡ id) × (used ≡ used₀)

  of_message : (n : ℕ) (m₀ : Message) → id_of m₀ ≡ n → eqb id n ≡ true → message_judged h₀ used₀ m₀ ≡ means h used m f → Named
  of_message n m₀ i t = go (in_range m₀)
    where
      go : (b : Bool) → cond b (means h₀ used₀ m₀ (failures_of m₀)) (refused 25) ≡ means h used m f → Named
      go false e = let z : ◌≡◌ {A = ℕ} 0 1 = cc in absurd (omega arith)
      go true e =
          let same : m₀ ≡ m = cc in
          let ends : used₀ ≡ used = cc in
          (ap id_of (sym same) ∙ i ∙ sym (eqb-true _ _ t), sym ends)

  payload_named : payload_read id h₀ used₀ p ≡ means h used m f → Named
  payload_named e =
      branch (eqb id 66) e (of_message 66 (DataStream (value_in data_stream_format p)) refl)
      (λ e. branch (eqb id 201) e (of_message 201 (Static (value_in static_format p)) refl)
      (λ e. branch (eqb id 202) e (of_message 202 (Dynamic (value_in dynamic_format p)) refl)
      (λ e. branch (eqb id 203) e (of_message 203 (Status (value_in status_format p)) refl)
      (λ e. branch (eqb id 246) e (of_message 246 (Traffic (value_in traffic_format p)) refl)
      (λ e. let z : ◌≡◌ {A = ℕ} 0 1 = cc in absurd (omega arith))))))

-- ---- a message that is read
module _ (s : List ℕ) (h : Header) (used : ℕ) (m : Message) (f : FailureAnswer) (e : read_due s ≡ means h used m f) where
  pub record Found : Type 0 where
    pub id : get_or s 5 0 ≡ id_of m
    pub ends : get_or s 1 0 + 8 ≡ used
    pub passes : refusal_before_check (found s) ≡ 0

  is_found : Found
  is_found = go (found s) refl e
    where
      go : (l : FrameAnswer) → found s ≡ l → read_by l s ≡ means h used m f → Found
      go (answered.refused number) q d = let z : ◌≡◌ {A = ℕ} 0 1 = cc in absurd (omega arith)
      go (answered.frame id h₀ used₀) q d =
          let a = accepted s id h₀ used₀ q in
          let n = payload_named id h₀ used₀ (payload_at (used₀ - 8) s) h used m f d in
          record {
            id = a.numbered ∙ sym n.0;
            ends = ap (λ (k : ℕ). k + 8) a.sized ∙ sym a.ends ∙ sym n.1;
            passes = ap refusal_before_check q;
          }

  named : (read_as (id_of m) s ≡ means h used m f) × (mavlink_id_due s ≡ record { refusal = 0; id = id_of m; used = used })
  named = (
    own (id_of m) s is_found.id ∙ e,
    ap (λ (n : ℕ). id_numbers n s) is_found.passes ∙ (λ i. record { refusal = 0; id = is_found.id i; used = is_found.ends i }),
  )

pub one_kind : OneKind
one_kind = record { own = own; no_header = no_header; other = other; named = named }
