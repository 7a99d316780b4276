-- The writer's three answers, with what holds where each is due. Assumes nothing.
use mathlib.Core.Path.{◌≡◌, refl, sym, ap, ◌∙◌}
use mathlib.Core.Bool.{Bool, true, false, cond, ◌||◌}
use mathlib.Core.List.{List}
use mathlib.Core.Logic.{◌⊎◌, inl, inr, ◌↔◌}
use Prim.Native.Nat.{ℕ, ◌≤◌, ◌<◌}
use native.Mathlib.Omega.{arith}
use lib.Dec.{eqb, ltb}
use lib.ListN.{length}
use borrow.Author.Tests.{eqb-true, eqb-false, ltb-true, ltb-false, eq-eqb, ne_eqb, lt-ltb, le-ltb}
use Rattle.ucp_frame.specs.Frame.{frame, longest_body}
use Rattle.output_writing.specs.Writing.{WriterAnswer, refused, wrote}
use Rattle.ucp_writer.specs.Room.{frame_due}
use Rattle.ucp_writer.specs.Refusals.{WrongBodyLength, NoRoomForFrame, FrameWriterRefuses}

data Due (body output : List ℕ) : WriterAnswer → Type 0 where
  empty : length body ≡ 0 → Due body output (refused 7)
  too_long : longest_body < length body → Due body output (refused 7)
  short : 1 ≤ length body → length body ≤ longest_body → length output < length (frame body) → Due body output (refused 8)
  accepted : 1 ≤ length body → length body ≤ longest_body → length (frame body) ≤ length output
      → Due body output (wrote (length (frame body)))

due : (body output : List ℕ) → Due body output (frame_due body output)
unfolding frame_due
due body output = go (eqb (length body) 0) refl (ltb longest_body (length body)) refl (ltb (length output) (length (frame body))) refl
  where
    go : (s : Bool) → eqb (length body) 0 ≡ s → (t : Bool) → ltb longest_body (length body) ≡ t
        → (u : Bool) → ltb (length output) (length (frame body)) ≡ u
        → Due body output (cond (s || t) (refused 7) (cond u (refused 8) (wrote (length (frame body)))))
    go true p t q u r = empty (eqb-true _ _ p)
    go false p true q u r = too_long (ltb-true _ _ q)
    go false p false q true r =
        let some : length body ≡ 0 → ⊥ = eqb-false _ _ p in
        short (omega arith) (ltb-false _ _ q) (ltb-true _ _ r)
    go false p false q false r =
        let some : length body ≡ 0 → ⊥ = eqb-false _ _ p in
        accepted (omega arith) (ltb-false _ _ q) (ltb-false _ _ r)

-- what holds of an accepted call
pub record Accepted (body output : List ℕ) (octets : ℕ) : Type 0 where
  pub exact : length (frame body) ≡ octets
  pub least : 1 ≤ length body
  pub most : length body ≤ longest_body
  pub room : length (frame body) ≤ length output

pub accepted_so : (body output : List ℕ) (octets : ℕ) → wrote octets ≡ frame_due body output → Accepted body output octets
accepted_so body output octets = go (frame_due body output) (due body output)
  where
    go : (a : WriterAnswer) → Due body output a → wrote octets ≡ a → Accepted body output octets
    go a (empty h) e = let z : ◌≡◌ {A = ℕ} 0 1 = cc in absurd (omega arith)
    go a (too_long h) e = let z : ◌≡◌ {A = ℕ} 0 1 = cc in absurd (omega arith)
    go a (short least most h) e = let z : ◌≡◌ {A = ℕ} 0 1 = cc in absurd (omega arith)
    go a (accepted least most room) e = record { exact = cc; least = least; most = most; room = room }

-- no refusal but 7 and 8
pub refused_so : (body output : List ℕ) (number : ℕ) → refused number ≡ frame_due body output → (number ≡ 7) ⊎ (number ≡ 8)
refused_so body output number = go (frame_due body output) (due body output)
  where
    go : (a : WriterAnswer) → Due body output a → refused number ≡ a → (number ≡ 7) ⊎ (number ≡ 8)
    go a (empty h) e = inl cc
    go a (too_long h) e = inl cc
    go a (short least most h) e = inr cc
    go a (accepted least most room) e = let z : ◌≡◌ {A = ℕ} 0 1 = cc in absurd (omega arith)

-- 7 exactly where the body has no octet or too many, 8 exactly where it has neither and its frame no room
pub refused_7 : (body output : List ℕ) → (frame_due body output ≡ refused 7) ↔ WrongBodyLength body
unfolding frame_due
refused_7 body output = (go (frame_due body output) (due body output), back)
  where
    go : (a : WriterAnswer) → Due body output a → a ≡ refused 7 → WrongBodyLength body
    go a (empty h) e = inl h
    go a (too_long h) e = inr h
    go a (short least most h) e = let z : ◌≡◌ {A = ℕ} 8 7 = cc in absurd (omega arith)
    go a (accepted least most room) e = let z : ◌≡◌ {A = ℕ} 0 1 = cc in absurd (omega arith)

    back : WrongBodyLength body → frame_due body output ≡ refused 7
    back (inl h) = rw (eq-eqb (length body) 0 h)
    back (inr h) =
        let some : length body ≡ 0 → ⊥ = omega arith in
        rw (ne_eqb (length body) 0 some, lt-ltb longest_body (length body) h)

pub refused_8 : (body output : List ℕ) → (frame_due body output ≡ refused 8) ↔ NoRoomForFrame body output
unfolding frame_due
refused_8 body output = (go (frame_due body output) (due body output), back)
  where
    go : (a : WriterAnswer) → Due body output a → a ≡ refused 8 → NoRoomForFrame body output
    go a (empty h) e = let z : ◌≡◌ {A = ℕ} 7 8 = cc in absurd (omega arith)
    go a (too_long h) e = let z : ◌≡◌ {A = ℕ} 7 8 = cc in absurd (omega arith)
    go a (short least most h) e = (least, most, h)
    go a (accepted least most room) e = let z : ◌≡◌ {A = ℕ} 0 1 = cc in absurd (omega arith)

    back : NoRoomForFrame body output → frame_due body output ≡ refused 8
    back h =
        let some : length body ≡ 0 → ⊥ = omega arith in
        rw (ne_eqb (length body) 0 some, le-ltb longest_body (length body) h.1, lt-ltb (length output) (length (frame body)) h.2)

-- a body that may be sent, with room for its frame, is accepted
pub due_accepted : (body output : List ℕ) → 1 ≤ length body → length body ≤ longest_body
    → length (frame body) ≤ length output → frame_due body output ≡ wrote (length (frame body))
unfolding frame_due
due_accepted body output least most room =
    let some : length body ≡ 0 → ⊥ = omega arith in
    rw (ne_eqb (length body) 0 some, le-ltb longest_body (length body) most, le-ltb (length output) (length (frame body)) room)

-- a body that the tests refuse is refused with that number
pub due_refused : (body output : List ℕ) (number : ℕ) → FrameWriterRefuses body output number → refused number ≡ frame_due body output
due_refused body output number (inl h) = ap refused h.0 ∙ sym ((refused_7 body output).1 h.1)
due_refused body output number (inr h) = ap refused h.0 ∙ sym ((refused_8 body output).1 h.1)
