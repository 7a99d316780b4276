-- Each call for C of one kind of MAVLink gives each refusal exactly when it is due: as the reader of every kind does, where the
-- message ID is the kind's or is not there. Assumes nothing.
use mathlib.Core.Path.{◌≡◌, refl, sym, ap, subst, ◌∙◌}
use mathlib.Core.Bool.{Bool, true, false, cond}
use mathlib.Core.List.{List}
use mathlib.Core.Logic.{◌⊎◌, inl, inr, ◌↔◌}
use Prim.Native.Nat.{ℕ, zero, suc, ◌+◌, ◌≤◌, ◌<◌}
use native.Mathlib.Omega.{arith}
use borrow.Author.Tests.{eqb-true, eqb-false, ne_eqb, ltb-true, ltb-false}
use lib.Dec.{eqb, ltb}
use lib.ListN.{length, get_or}
use Rattle.mavlink_frame.specs.Frame.{start}
use Rattle.mavlink_frame.specs.Reader as found_as
use Rattle.mavlink_frame.specs.Reader.{FrameAnswer, found}
use Rattle.mavlink_messages.specs.Messages.{MavlinkAnswer, refused, means, in_range, payload_of, message_frame, read_by, read_due}
use Rattle.mavlink_messages.specs.Refusals.{HasHeader, MavlinkUnknownId}
use Rattle.thm_mavlink_messages.proofs.Tabled.{tabled_mavlink}
use Rattle.c_mavlink.specs.Readers.{read_as, read_number, header_left, message_left}
use Rattle.c_mavlink.specs.declared.OstrogoszMavlinkId.{OstrogoszMavlinkId}
use Rattle.c_mavlink.specs.Ids.{refusal_before_check, id_numbers}
use Rattle.c_mavlink.proofs.OneKind.{one_kind}
use Rattle.thm_c_messages.proofs.Refusals.{writer_refusals}
use Rattle.demands.specs.LinkedMavlink.{HasMavlinkId, HasAnotherMavlinkId, MavlinkRefusals, MavlinkReaderRefuses, MavlinkWriterRefuses, MavlinkIdRefuses}
use Rattle.demands.proofs.MavlinkRefusals.{frame_never_25, found_then_25, exactly_20, exactly_21, exactly_22, exactly_23, exactly_24, exactly_25, exactly_accepted}

-- an answer's number, and that it is a refusal
number_so : (a : MavlinkAnswer) (n : ℕ) → 0 < n → (read_number a ≡ n) ↔ (a ≡ refused n)
number_so (refused m) n some = (λ e. ap refused e, λ e. cc)
number_so (means h used m f) n some = (λ e. absurd (omega arith), λ e. let z : ◌≡◌ {A = ℕ} 0 1 = cc in absurd (omega arith))

module _ (id : ℕ) (input : List ℕ) where
  -- ---- read as the reader of every kind reads it
  module _ (same : read_as id input ≡ read_due input) (own : HasMavlinkId id input) where
    as_every : (n : ℕ) {Condition : Type 0} → 0 < n → (read_due input ≡ refused n) ↔ Condition → (read_number (read_as id input) ≡ n) ↔ Condition
    as_every n some so =
        let a = number_so (read_as id input) n some in
        (λ e. so.0 (sym same ∙ a.0 e), λ c. a.1 (same ∙ so.1 c))

    with_id : (n : ℕ) {Condition : Type 0} → 0 < n → (read_due input ≡ refused n) ↔ Condition
        → (read_number (read_as id input) ≡ n) ↔ (HasMavlinkId id input × Condition)
    with_id n some so = let a = as_every n some so in (λ e. (own, a.0 e), λ c. a.1 c.1)

    in_table : (a : MavlinkAnswer) → read_due input ≡ a → (read_number a ≡ 0) ⊎ ((20 ≤ read_number a) × (read_number a ≤ 25))
    in_table (refused n) e = inr (tabled_mavlink input n e)
    in_table (means h used m f) e = inl refl

    unknown_id : (MavlinkUnknownId input ⊎ HasAnotherMavlinkId id input) → MavlinkUnknownId input
    unknown_id (inl u) = u
    unknown_id (inr o) = absurd (o.1 (own o.0))

    as_every_kind : MavlinkRefusals id input (read_number (read_as id input))
    as_every_kind =
        let unknown = as_every 22 (omega arith) (exactly_22 input) in
        record {
          refuses20 = with_id 20 (omega arith) (exactly_20 input);
          refuses21 = as_every 21 (omega arith) (exactly_21 input);
          refuses22 = (λ e. inl (unknown.0 e), λ c. unknown.1 (unknown_id c));
          refuses23 = with_id 23 (omega arith) (exactly_23 input);
          refuses24 = with_id 24 (omega arith) (exactly_24 input);
          refuses25 = with_id 25 (omega arith) (exactly_25 input);
          accepts =
              let a = exactly_accepted input in
              (λ e. (own, a.0 (sym (ap read_number same) ∙ e)), λ c. ap read_number same ∙ a.1 c.1);
          no_other = in_table (read_as id input) (sym same);
        }

  -- ---- another kind's
  module _ (there : HasHeader input) (differs : get_or input 5 0 ≡ id → ⊥) where
    not_own : {C : Type 0} → HasMavlinkId id input → C
    not_own own = absurd (differs (own there))

    as_another : MavlinkRefusals id input 22
    as_another =
        record {
          refuses20 = (λ e. absurd (omega arith), λ c. not_own c.0);
          refuses21 = (λ e. absurd (omega arith), λ c. absurd (c.1 there.0));
          refuses22 = (λ e. inr (there, differs), λ c. refl);
          refuses23 = (λ e. absurd (omega arith), λ c. not_own c.0);
          refuses24 = (λ e. absurd (omega arith), λ c. not_own c.0);
          refuses25 = (λ e. absurd (omega arith), λ c. not_own c.0);
          accepts = (λ e. absurd (omega arith), λ c. not_own c.0);
          no_other = inr (omega arith, omega arith);
        }

  due_refusals : MavlinkRefusals id input (read_number (read_as id input))
  due_refusals = go (eqb (get_or input 0 0) start) refl (ltb (length input) 6) refl (eqb (get_or input 5 0) id) refl
    where
      no_header : (HasHeader input → ⊥) → MavlinkRefusals id input (read_number (read_as id input))
      no_header none = as_every_kind (one_kind.no_header id input none) (λ h. absurd (none h))

      go : (first : Bool) → eqb (get_or input 0 0) start ≡ first → (short : Bool) → ltb (length input) 6 ≡ short
          → (own : Bool) → eqb (get_or input 5 0) id ≡ own → MavlinkRefusals id input (read_number (read_as id input))
      go false a short b own c = no_header (λ h. eqb-false _ _ a h.0)
      go true a true b own c = no_header (λ h. omega (arith, h.1, ltb-true (length input) 6 b))
      go true a false b true c =
          let is = eqb-true _ _ c in
          as_every_kind (one_kind.own id input is) (λ h. is)
      go true a false b false c =
          let there : HasHeader input = (eqb-true _ _ a, ltb-false _ _ b) in
          let differs = eqb-false _ _ c in
          subst (λ (x : MavlinkAnswer). MavlinkRefusals id input (read_number x)) (sym (one_kind.other id input there differs)) (as_another there differs)

-- a refusal leaves both structs
left : (due : MavlinkAnswer) (header message : List ℕ) → (read_number due ≡ 0 → ⊥)
    → (header_left header due ≡ header) × (message_left message due ≡ message)
left (refused n) header message some = (refl, refl)
left (means h used m f) header message some = absurd (some refl)

pub mavlink_reader_refuses : MavlinkReaderRefuses
mavlink_reader_refuses id input header message header_after message_after answer call = (
  subst (λ (n : ℕ). MavlinkRefusals id input n) (sym call.answers) (due_refusals id input),
  λ some.
      let l = left (read_as id input) header message (λ z. some (call.answers ∙ z)) in
      (call.leaves_header ∙ l.0, call.leaves_message ∙ l.1),
)

pub mavlink_writer_refuses : MavlinkWriterRefuses
mavlink_writer_refuses message header output after given call =
    writer_refusals 25 (omega arith) (in_range message) (length (payload_of message) + 8) (message_frame message header) output given after call

-- ---- the call for the message ID
numbered : (n : ℕ) (input : List ℕ) → (id_numbers n input).refusal ≡ n
numbered zero input = refl
numbered (suc n) input = refl

module _ (input : List ℕ) where
  -- before the check is looked at, as the reader of every kind
  before_check : (l : FrameAnswer) → found input ≡ l → (n : ℕ) → 20 ≤ n → n ≤ 23 → (refusal_before_check l ≡ n) ↔ (read_due input ≡ refused n)
  before_check (found_as.refused m) e n least most =
      (λ h. d ∙ ap refused (go (eqb m 24) refl h), λ h. let same : m ≡ n = cc in rw (ne_eqb m 24 (λ z. omega (arith, z, same))) same)
    where
      d : read_due input ≡ refused m
      d = ap (λ f. read_by f input) e

      go : (wrong : Bool) → eqb m 24 ≡ wrong → cond wrong 0 m ≡ n → m ≡ n
      go true w h = absurd (omega arith)
      go false w h = h
  before_check (found_as.frame id h used) e n least most =
      (λ z. absurd (omega arith), λ r. let m = found_then_25 input id h used n e r in absurd (omega (arith, m)))

  to_23 : (l : FrameAnswer) → found input ≡ l → (refusal_before_check l ≡ 0) ⊎ ((20 ≤ refusal_before_check l) × (refusal_before_check l ≤ 23))
  to_23 (found_as.refused m) e = go (eqb m 24) refl
    where
      t : (20 ≤ m) × (m ≤ 25)
      t = tabled_mavlink input m (ap (λ f. read_by f input) e)

      never : m ≡ 25 → ⊥
      never z = frame_never_25 input (e ∙ ap found_as.refused z)

      go : (wrong : Bool) → eqb m 24 ≡ wrong → (cond wrong 0 m ≡ 0) ⊎ ((20 ≤ cond wrong 0 m) × (cond wrong 0 m ≤ 23))
      go true w = inl refl
      go false w = inr (t.0, omega (arith, t.1, never, eqb-false m 24 w))
  to_23 (found_as.frame id h used) e = inl refl

pub mavlink_id_refuses : MavlinkIdRefuses
mavlink_id_refuses input given e =
    let own = numbers (refusal_before_check (found input)) e in
    let r : given.refusal ≡ refusal_before_check (found input) = ap (λ (o : OstrogoszMavlinkId). o.refusal) e ∙ numbered _ input in
    let b = before_check input (found input) refl in
    rw r (
      chained (b 20 (omega arith) (omega arith)) (exactly_20 input),
      chained (b 21 (omega arith) (omega arith)) (exactly_21 input),
      chained (b 22 (omega arith) (omega arith)) (exactly_22 input),
      chained (b 23 (omega arith) (omega arith)) (exactly_23 input),
      to_23 input (found input) refl,
      λ none. own.0 (r ∙ none),
      λ some. own.1 (λ none. some (sym r ∙ none)),
    )
  where
    numbers : (n : ℕ) → given ≡ id_numbers n input
        → (given.refusal ≡ 0 → (given.id ≡ get_or input 5 0) × (given.used ≡ get_or input 1 0 + 8))
        × ((given.refusal ≡ 0 → ⊥) → (given.id ≡ 0) × (given.used ≡ 0))
    numbers zero d = (
      λ none. (ap (λ (o : OstrogoszMavlinkId). o.id) d, ap (λ (o : OstrogoszMavlinkId). o.used) d),
      λ some. absurd (some (ap (λ (o : OstrogoszMavlinkId). o.refusal) d)),
    )
    numbers (suc n) d = (
      λ none. absurd (omega (arith, none, ap (λ (o : OstrogoszMavlinkId). o.refusal) d)),
      λ some. (ap (λ (o : OstrogoszMavlinkId). o.id) d, ap (λ (o : OstrogoszMavlinkId). o.used) d),
    )

    chained : {A B C : Type 0} → A ↔ B → B ↔ C → A ↔ C
    chained p q = (λ a. q.0 (p.0 a), λ c. p.1 (q.1 c))
