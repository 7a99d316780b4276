-- A frame that is read uses octets, and no more than there are. Assumes nothing.
use mathlib.Core.Path.{◌≡◌, refl}
use mathlib.Core.Bool.{Bool, true, false, cond}
use mathlib.Core.List.{List}
use Prim.Native.Nat.{ℕ, ◌-◌, ◌<◌, ◌≤◌}
use native.Mathlib.Omega.{arith}
use lib.Dec.{eqb}
use lib.ListN.{length}
use Rattle.field_format.specs.Format.{value_in}
use Rattle.mavlink_frame.specs.declared.Header.{Header}
use Rattle.mavlink_frame.specs.Reader.{FrameAnswer, refused, frame, payload_at, found}
use Rattle.mavlink_frame.proofs.reader.Accepted.{accepted}
use Rattle.mavlink_messages.specs.declared.Message.{Message}
use Rattle.mavlink_messages.specs.Failures.{FailureAnswer}
use Rattle.mavlink_messages.specs.Messages as read_as
use Rattle.mavlink_messages.specs.Static201.{static_format}
use Rattle.mavlink_messages.specs.Dynamic202.{dynamic_format}
use Rattle.mavlink_messages.specs.Traffic246.{traffic_format}
use Rattle.mavlink_messages.specs.Messages.{MavlinkAnswer, payload_read, read_by, read_due}
use Rattle.text_mavlink_explanation.specs.Explanation.{used_by, is_refused}

-- all of a frame's octets, or none where it is refused
pub record Uses (n : ℕ) (r : MavlinkAnswer) : Type 0 where
  pub most : used_by r ≤ n
  pub all : is_refused r ≡ false → used_by r ≡ n

either : (b : Bool) (x y : MavlinkAnswer) {n : ℕ} → Uses n x → Uses n y → Uses n (cond b x y)
either true x y h g = h
either false x y h g = g

none : {n number : ℕ} → Uses n (read_as.refused number)
none = record { most = omega arith; all = λ e. let z : ◌≡◌ {A = ℕ} 0 1 = cc in absurd (omega arith) }

whole : {n : ℕ} {h : Header} {m : Message} {f : FailureAnswer} → Uses n (read_as.means h n m f)
whole = record { most = omega arith; all = λ e. refl }

payload_uses : (id : ℕ) (h : Header) (n : ℕ) (p : List ℕ) → Uses n (payload_read id h n p)
payload_uses id h n p =
    either (eqb id 66) _ _ whole
    (either (eqb id 201) _ _ (either (static_format.ranges (value_in static_format p)) _ _ whole none)
    (either (eqb id 202) _ _ (either (dynamic_format.ranges (value_in dynamic_format p)) _ _ whole none)
    (either (eqb id 203) _ _ whole
    (either (eqb id 246) _ _ (either (traffic_format.ranges (value_in traffic_format p)) _ _ whole none) none))))

module _ (s : List ℕ) where
  within : (f : FrameAnswer) → found s ≡ f → used_by (read_by f s) ≤ length s
  within (refused number) e = omega arith
  within (frame id h used) e =
      omega (arith, (payload_uses id h used (payload_at (used - 8) s)).most, (accepted s id h used e).room)

  pub used_within : used_by (read_due s) ≤ length s
  used_within = within (found s) refl

  some : (f : FrameAnswer) → found s ≡ f → is_refused (read_by f s) ≡ false → 0 < used_by (read_by f s)
  some (refused number) e r = let z : ◌≡◌ {A = ℕ} 0 1 = cc in absurd (omega arith)
  some (frame id h used) e r =
      omega (arith, (payload_uses id h used (payload_at (used - 8) s)).all r, (accepted s id h used e).ends)

  pub used_some : is_refused (read_due s) ≡ false → 0 < used_by (read_due s)
  used_some = some (found s) refl
