-- The refusals that the reader of MAVLink can give. Assumes nothing.
use mathlib.Core.Path.{◌≡◌, subst}
use mathlib.Core.Bool.{Bool, true, false, cond}
use mathlib.Core.List.{List}
use Prim.Native.Nat.{ℕ, ◌+◌, ◌-◌, ◌≤◌}
use native.Mathlib.Omega.{arith}
use lib.Dec.{eqb, ltb}
use lib.ListN.{length, get_or}
use Rattle.field_format.specs.Format.{value_in}
use Rattle.mavlink_frame.specs.declared.Kind as kind-as
use Rattle.mavlink_frame.specs.declared.Header.{Header}
use Rattle.mavlink_frame.specs.Frame as lookup
use Rattle.mavlink_frame.specs.Reader as found_as
use Rattle.mavlink_frame.specs.Frame.{start, KindAnswer, mavlink_kind}
use Rattle.mavlink_frame.specs.Reader.{FrameAnswer, header_at, payload_at, check_at, check_due, found_of, found_by, found}
use Rattle.mavlink_messages.specs.declared.Message as mavlink
use Rattle.mavlink_messages.specs.declared.Message.TheVariants as kinds
use Rattle.mavlink_messages.specs.Messages as read_as
use Rattle.mavlink_messages.specs.DataStream66.{data_stream_format}
use Rattle.mavlink_messages.specs.Static201.{static_format}
use Rattle.mavlink_messages.specs.Dynamic202.{dynamic_format}
use Rattle.mavlink_messages.specs.Status203.{status_format}
use Rattle.mavlink_messages.specs.Traffic246.{traffic_format}
use Rattle.mavlink_messages.specs.Messages.{MavlinkAnswer, in_range, failures_of, message_judged, payload_read, read_by, read_due}

-- ---- 20 to 25
abbrev Tabled : FrameAnswer → Type 0
Tabled (found_as.refused n) = (20 ≤ n) × (n ≤ 24)
Tabled (found_as.frame id h used) = Unit {0}

from_23 : (k : kind-as.Kind) (s : List ℕ) → Tabled (found_of k s)
unfolding found_of
from_23 k s =
    go (eqb (get_or s 1 0) k.length) (ltb (length s) (k.length + 8)) (eqb (check_at k.length s) (check_due k.length k.extra s))
  where
    go : (a b c : Bool)
        → Tabled (cond a (cond b (found_as.refused 20) (cond c (found_as.frame k.id (header_at s) (k.length + 8)) (found_as.refused 24))) (found_as.refused 23))
    go false b c = (omega arith, omega arith)
    go true true c = (omega arith, omega arith)
    go true false true = tt
    go true false false = (omega arith, omega arith)

from_22 : (l : KindAnswer) (s : List ℕ) → Tabled (found_by l s)
from_22 (lookup.known k) s = from_23 k s
from_22 lookup.unknown s = (omega arith, omega arith)

tabled : (s : List ℕ) → Tabled (found s)
unfolding found
tabled s = go (eqb (length s) 0) (eqb (get_or s 0 0) start) (ltb (length s) 6)
  where
    go : (a b c : Bool)
        → Tabled (cond a (found_as.refused 20) (cond b (cond c (found_as.refused 20) (found_by (mavlink_kind (get_or s 5 0)) s)) (found_as.refused 21)))
    go true b c = (omega arith, omega arith)
    go false false c = (omega arith, omega arith)
    go false true true = (omega arith, omega arith)
    go false true false = from_22 (mavlink_kind (get_or s 5 0)) s

abbrev InTable : MavlinkAnswer → Type 0
InTable (read_as.refused n) = (20 ≤ n) × (n ≤ 25)
InTable (read_as.means h used m f) = Unit {0}

judged_in : (h : Header) (used : ℕ) (m : mavlink.Message) → InTable (message_judged h used m)
judged_in h used m = go (in_range m)
  where
    go : (right : Bool) → InTable (cond right (read_as.means h used m (failures_of m)) (read_as.refused 25))
    go true = tt
    go false = (omega arith, omega arith)

either : (t : Bool) (x y : MavlinkAnswer) → InTable x → InTable y → InTable (cond t x y)
either true x y p q = p
either false x y p q = q

payload_in : (id : ℕ) (h : Header) (used : ℕ) (p : List ℕ) → InTable (payload_read id h used p)
payload_in id h used p =
    either (eqb id 66) _ _ (judged_in h used (kinds.DataStream (value_in data_stream_format p)))
    (either (eqb id 201) _ _ (judged_in h used (kinds.Static (value_in static_format p)))
    (either (eqb id 202) _ _ (judged_in h used (kinds.Dynamic (value_in dynamic_format p)))
    (either (eqb id 203) _ _ (judged_in h used (kinds.Status (value_in status_format p)))
    (either (eqb id 246) _ _ (judged_in h used (kinds.Traffic (value_in traffic_format p))) (omega arith, omega arith)))))

read_in : (f : FrameAnswer) (s : List ℕ) → Tabled f → InTable (read_by f s)
read_in (found_as.refused n) s t = (t.0, omega arith)
read_in (found_as.frame id h used) s t = payload_in id h used (payload_at (used - 8) s)

pub tabled_mavlink : (s : List ℕ) (n : ℕ) → read_due s ≡ read_as.refused n → (20 ≤ n) × (n ≤ 25)
tabled_mavlink s n e = subst InTable e (read_in (found s) s (tabled s))
