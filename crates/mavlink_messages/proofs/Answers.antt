-- What a reader answers, by its tests. Assumes nothing.
use mathlib.Core.Path.{◌≡◌, sym, ap, ◌∙◌}
use mathlib.Core.Bool.{true}
use mathlib.Core.List.{List}
use Prim.Native.Nat.{ℕ, ◌-◌, ◌≤◌}
use native.Mathlib.Omega.{arith}
use borrow.Author.Tests.{eq-eqb}
use lib.ListN.{length, take, drop, length-drop}
use lib.Seq.{length-take-le}
use Rattle.mavlink_frame.specs.declared.Header.{Header}
use Rattle.mavlink_frame.specs.Reader.{frame, found}
use Rattle.mavlink_frame.proofs.reader.Accepted.{Accepted, accepted}
use Rattle.mavlink_messages.specs.Messages.{payload_read, read_by, read_due, of_its_kind}

module _ (s : List ℕ) (id : ℕ) (h : Header) (used : ℕ) (e : found s ≡ frame id h used) where
  frame_is : Accepted s id h used
  frame_is = accepted s id h used e

  pub payload-ends : (2 ≤ used) × (6 ≤ used - 2) × (used - 2 ≤ length s)
  payload-ends =
      let a = frame_is.ends in
      let b = frame_is.room in
      (omega arith, omega arith, omega arith)

  -- the payload has the kind's length
  payload_length : length (take (used - 2 - 6) (drop 6 s)) ≡ frame_is.kind.length
  payload_length =
      let a = frame_is.ends in
      let b = frame_is.room in
      let l : used - 2 - 6 ≡ frame_is.kind.length = omega arith in
      length-take-le (used - 2 - 6) (drop 6 s) (omega (arith, length-drop 6 s)) ∙ l

  pub payload-of-its-kind : of_its_kind id (length (take (used - 2 - 6) (drop 6 s))) ≡ true
  payload-of-its-kind = rw frame_is.known (eq-eqb _ _ payload_length)

  pub payload-read : payload_read id h used (take (used - 2 - 6) (drop 6 s)) ≡ read_due s
  payload-read =
      let n : used - 2 - 6 ≡ used - 8 = omega arith in
      ap (λ (k : ℕ). payload_read id h used (take k (drop 6 s))) n ∙ ap (λ f. read_by f s) (sym e)
