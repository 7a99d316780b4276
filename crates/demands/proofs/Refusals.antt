-- The receiver gives no refusal but 1 to 6. Assumes nothing.
use mathlib.Core.Bool.{Bool, true, false, cond}
use mathlib.Core.List.{List, [], ◌∷◌}
use Prim.Native.Nat.{ℕ, ◌≤◌}
use native.Mathlib.Omega.{arith}
use lib.Dec.{eqb, ltb}
use lib.ListN.{length, take}
use Rattle.crc_gdl90.specs.Check.{frame_check}
use Rattle.ucp_frame.specs.Frame.{flag}
use Rattle.ucp_frame.specs.Stretch.{Verdict, silent, refused, delivered, store_octets, without_check, check_sent, at_flag}
use Rattle.ucp_receiver.specs.declared.Phase.{Phase}
use Rattle.ucp_receiver.specs.declared.Phase.TheVariants.{Hunting, Reading, Escape, BadEscape, TooLong}
use Rattle.ucp_receiver.specs.Octet.{State, closed_in, state_after, verdict_due, counts_after}
use Rattle.ucp_receiver.specs.Slice.{SliceRun, slice_run, end_at}
use Rattle.ucp_receiver.specs.declared.Counts.{Counts}

pub data Tabled : Verdict → Type 0 where
  quiet : Tabled silent
  numbered : (n : ℕ) → 1 ≤ n → n ≤ 6 → Tabled (refused n)
  whole : (octets : List ℕ) → Tabled (delivered octets)

either : (t : Bool) {v w : Verdict} → Tabled v → Tabled w → Tabled (cond t v w)
either true h k = h
either false h k = k

tabled_at_flag : (octets : List ℕ) (room : ℕ) → Tabled (at_flag octets room)
unfolding at_flag
tabled_at_flag octets room =
    either (ltb (length octets) 3) (numbered 4 (omega arith) (omega arith))
    (either (eqb (check_sent octets) (frame_check (without_check octets)))
    (either (ltb room (length (without_check octets))) (numbered 6 (omega arith) (omega arith)) (whole (without_check octets)))
    (numbered 5 (omega arith) (omega arith)))

tabled_in : (p : Phase) (s : State) (room : ℕ) → Tabled (closed_in p s room)
tabled_in Hunting s room = quiet
tabled_in Reading s room =
    either (eqb s.rest.stored 0) quiet
    (either (ltb store_octets s.rest.stored) (numbered 3 (omega arith) (omega arith))
    (tabled_at_flag (take s.rest.stored s.store) room))
tabled_in Escape s room = numbered 2 (omega arith) (omega arith)
tabled_in BadEscape s room = numbered 1 (omega arith) (omega arith)
tabled_in TooLong s room = numbered 3 (omega arith) (omega arith)

pub tabled : (s : State) (octet room : ℕ) → Tabled (verdict_due s octet room)
unfolding verdict_due
tabled s octet room = either (eqb octet flag) (tabled_in s.rest.phase s room) quiet

-- of a slice: the verdict of the octet that ends it, or silence
either_end : (v : Verdict) (ended goes_on : SliceRun) → Tabled ended.verdict → Tabled goes_on.verdict → Tabled (end_at v ended goes_on).verdict
either_end silent ended goes_on h k = k
either_end (refused number) ended goes_on h k = h
either_end (delivered octets) ended goes_on h k = h

pub tabled_slice : (s : State) (c : Counts) (octets : List ℕ) (room : ℕ) → Tabled (slice_run s c octets room).verdict
unfolding slice_run
tabled_slice s c [] room = quiet
tabled_slice s c (x ∷ xs) room =
    either_end (verdict_due s x room) _ _ (tabled s x room) (tabled_slice (state_after s x) (counts_after c s x room) xs room)
