-- What is read at the start of 50 octets or more does not change when octets are appended. Assumes nothing.
use mathlib.Core.Path.{◌≡◌, refl, ap, ◌∙◌}
use mathlib.Core.Bool.{Bool, true, false, cond}
use mathlib.Core.List.{List, ◌++◌}
use Prim.Native.Nat.{ℕ, ◌+◌, ◌-◌, ◌<◌, ◌≤◌}
use native.Mathlib.Omega.{arith}
use borrow.Author.Tests.{ne_eqb, le-ltb}
use lib.Dec.{eqb, ltb}
use lib.ListN.{length, get_or, take, drop, length-append, length-drop, get_or-append}
use lib.Seq.{take-append-le, drop-append-le}
use Rattle.mavlink_frame.specs.Frame.{KindAnswer, known, unknown, mavlink_kind, start}
use Rattle.mavlink_frame.specs.Reader.{FrameAnswer, refused, frame, check_at, check_due, found_of, found_by, found}
use Rattle.mavlink_messages.specs.Messages.{payload_read, read_by}
use Rattle.text_mavlink_explanation.specs.Decided.{frame_room, DecidedAtRoom}

-- ---- no kind has more than 42 octets in its payload, so no frame has more than 50

abbrev Few : KindAnswer → Type 0
Few (known k) = k.length ≤ 42
Few unknown = Unit {0}

few_either : (b : Bool) (x y : KindAnswer) → Few x → Few y → Few (cond b x y)
few_either true x y h g = h
few_either false x y h g = g

few_kind : (id : ℕ) → Few (mavlink_kind id)
unfolding mavlink_kind
few_kind id =
    few_either (eqb id 66) _ _ (omega arith)
    (few_either (eqb id 201) _ _ (omega arith)
    (few_either (eqb id 202) _ _ (omega arith)
    (few_either (eqb id 203) _ _ (omega arith) (few_either (eqb id 246) _ _ (omega arith) tt))))

abbrev Short : FrameAnswer → Type 0
Short (frame id h used) = used ≤ frame_room
Short (refused number) = Unit {0}

short_either : (b : Bool) (x y : FrameAnswer) → Short x → Short y → Short (cond b x y)
short_either true x y h g = h
short_either false x y h g = g

short_of : (l : KindAnswer) (s : List ℕ) → Few l → Short (found_by l s)
unfolding found_of
short_of unknown s few = tt
short_of (known k) s few =
    short_either (eqb (get_or s 1 0) k.length) _ _
    (short_either (ltb (length s) (k.length + 8)) _ _ tt
    (short_either (eqb (check_at k.length s) (check_due k.length k.extra s)) _ _ (omega arith) tt))
    tt

short_found : (s : List ℕ) → Short (found s)
unfolding found
short_found s =
    short_either (eqb (length s) 0) _ _ tt
    (short_either (eqb (get_or s 0 0) start) _ _
    (short_either (ltb (length s) 6) _ _ tt (short_of (mavlink_kind (get_or s 5 0)) s (few_kind (get_or s 5 0))))
    tt)

-- ---- octets within the first 50 are the same

module _ (s t : List ℕ) (h : frame_room ≤ length s) where
  more : frame_room ≤ length (s ++ t)
  more = simp length-append (omega arith)

  same_at : (i : ℕ) → i < frame_room → get_or (s ++ t) i 0 ≡ get_or s i 0
  same_at i b = get_or-append s t 0 i (omega arith)

  same_part : (from n : ℕ) → from + n ≤ frame_room → take n (drop from (s ++ t)) ≡ take n (drop from s)
  same_part from n b =
      let before : from ≤ length s = omega arith in
      let within : n ≤ length (drop from s) = simp length-drop (omega arith) in
      rw (drop-append-le from s t before) (take-append-le n (drop from s) t within)

  same_of : (l : KindAnswer) → Few l → found_by l (s ++ t) ≡ found_by l s
  unfolding found_of
  same_of unknown few = refl
  same_of (known k) few =
      rw (
        same_at 1 (omega arith),
        same_at 2 (omega arith),
        same_at 3 (omega arith),
        same_at 4 (omega arith),
        same_at (k.length + 6) (omega arith),
        same_at (k.length + 6 + 1) (omega arith),
        same_part 1 (k.length + 5) (omega arith),
        le-ltb (length (s ++ t)) (k.length + 8) (omega (arith, more)),
        le-ltb (length s) (k.length + 8) (omega arith),
      )

  same_found : found (s ++ t) ≡ found s
  unfolding found
  same_found =
      rw (
        ne_eqb (length (s ++ t)) 0 (λ e. omega (arith, more)),
        ne_eqb (length s) 0 (λ e. omega arith),
        same_at 0 (omega arith),
        le-ltb (length (s ++ t)) 6 (omega (arith, more)),
        le-ltb (length s) 6 (omega arith),
        same_at 5 (omega arith),
        same_of (mavlink_kind (get_or s 5 0)) (few_kind (get_or s 5 0)),
      )

  same_read : (f : FrameAnswer) → Short f → read_by f (s ++ t) ≡ read_by f s
  same_read (refused number) short = refl
  same_read (frame id head used) short =
      ap (payload_read id head used) (same_part 6 (used - 8) (omega arith))

pub decided : DecidedAtRoom
decided s h t =
    ap (λ (f : FrameAnswer). read_by f (s ++ t)) (same_found s t h) ∙ same_read s t h (found s) (short_found s)
