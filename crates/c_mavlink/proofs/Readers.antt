-- What the reader of a kind answers, by its tests. Assumes nothing.
use mathlib.Core.Path.{◌≡◌, refl, ap, ◌∙◌}
use mathlib.Core.Bool.{Bool, true, false}
use mathlib.Core.List.{List}
use Prim.Native.Nat.{ℕ, ◌+◌, ◌-◌}
use native.Mathlib.Omega.{arith}
use Rattle.field_format.specs.Format.{Format, value_in}
use Rattle.mavlink_frame.specs.declared.Header.{Header}
use Rattle.mavlink_frame.specs.declared.Kind.{Kind}
use Rattle.mavlink_frame.specs.Reader as answered
use Rattle.mavlink_frame.specs.Reader.{FrameAnswer, header_at, payload_at, check_at, check_due, found_of, found_by, found}
use Rattle.mavlink_messages.specs.declared.Message as message-as
use Rattle.mavlink_messages.specs.Messages.{judged_by, payload_read, read_by}
use Rattle.c_lent.specs.Structs.{stored}
use Rattle.c_mavlink.specs.Structs.{header_struct, message_stored}
use Rattle.c_mavlink.specs.Readers.{is_other, found_as, read_as, ReadsMavlink}
use Rattle.c_mavlink.specs.Steps.{Taken}

-- an input that has another kind's ID, or none
pub as_found : (id : ℕ) (s : List ℕ) → is_other id s ≡ false → found_as id s ≡ found s
unfolding found_as
as_found id s e = rw e

-- ---- the answers
module _ (header message : List ℕ) where
  -- refused up to the check
  pub frame_refused : (id : ℕ) (s : List ℕ) {number : ℕ} → found_as id s ≡ answered.refused number
      → ReadsMavlink (read_as id s) header message number header message
  frame_refused id s e = rw e (record { answers = refl; leaves_header = refl; leaves_message = refl })

  -- a right frame of a kind with a format and a place among the messages
  module _ {A : Type 0} (k : Kind) (f : Format A) (is : A → message-as.Message)
      (reads : (h : Header) (used : ℕ) (p : List ℕ) → payload_read k.id h used p ≡ judged_by (f.ranges (value_in f p)) h used (is (value_in f p)))
      (s : List ℕ) (t : Taken k s) where
    size : k.length + 8 - 8 ≡ k.length
    size = omega arith

    due : {fits : Bool} → f.ranges (value_in f (payload_at k.length s)) ≡ fits
        → read_as k.id s ≡ judged_by fits (header_at s) (k.length + 8) (is (value_in f (payload_at k.length s)))
    due e =
        ap (λ (found : FrameAnswer). read_by found s) t.is
        ∙ ap (λ (n : ℕ). payload_read k.id (header_at s) (k.length + 8) (payload_at n s)) size
        ∙ reads (header_at s) (k.length + 8) (payload_at k.length s)
        ∙ ap (λ (b : Bool). judged_by b (header_at s) (k.length + 8) (is (value_in f (payload_at k.length s)))) e

    pub field_refused : f.ranges (value_in f (payload_at k.length s)) ≡ false
        → ReadsMavlink (read_as k.id s) header message 25 header message
    field_refused e = rw (due e) (record { answers = refl; leaves_header = refl; leaves_message = refl })

    pub read : {header_after message_after : List ℕ} → f.ranges (value_in f (payload_at k.length s)) ≡ true
        → header_after ≡ stored header_struct (header_at s) → message_after ≡ message_stored (is (value_in f (payload_at k.length s)))
        → ReadsMavlink (read_as k.id s) header message 0 header_after message_after
    read e h m = rw (due e) (record { answers = refl; leaves_header = h; leaves_message = m })
