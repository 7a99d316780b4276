-- How many octets a frame has. Assumes nothing.
use mathlib.Core.Path.{◌≡◌, ap}
use mathlib.Core.List.{List}
use Prim.Native.Nat.{ℕ, ◌+◌, ◌/◌, ◌%◌}
use native.Mathlib.Omega.{arith}
use lib.ListN.{length, length-append}
use Rattle.crc_gdl90.specs.Check.{frame_check, frame_check_octets}
use Rattle.ucp_frame.specs.Frame.{escaped, stuffed, frame}
use Rattle.ucp_frame.proofs.Stuffing.{stuffed_append}

pub frame_length : (body : List ℕ) (check : ℕ) → check ≡ frame_check body
    → length (frame body) ≡ 2 + length (escaped (check % 256)) + length (escaped (check / 256)) + length (stuffed body)
unfolding frame stuffed
frame_length body check e =
    rw e (simp length-append (omega (arith, simp length-append at (ap length (stuffed_append body (frame_check_octets body))))))
