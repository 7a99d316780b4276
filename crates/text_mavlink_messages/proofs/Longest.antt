-- How long a message can be. Assumes nothing.
use mathlib.Core.Bool.{Bool, true, false, cond}
use Prim.Native.Nat.{ℕ, ◌≤◌}
use native.Mathlib.Omega.{arith}
use lib.Dec.{eqb}
use lib.ListN.{length, length-append}
use Rattle.text_fields.specs.Fields.{none, squawk}
use Rattle.text_fields.proofs.Longest.{most, fields_most}
use Rattle.mavlink_frame.specs.declared.Header.{Header}
use Rattle.mavlink_messages.specs.Failures.{LowestAnswer, bit, none, FailureAnswer}
use Rattle.mavlink_messages.specs.declared.Message.{Message}
use Rattle.mavlink_messages.specs.declared.Message.TheVariants.{DataStream, Static, Dynamic, Status, Traffic}
use Rattle.text_mavlink_messages.specs.Dynamic202.{dynamic_fields}
use Rattle.text_mavlink_messages.specs.Traffic246.{traffic_fields}
use Rattle.text_mavlink_messages.specs.Messages.{header_fields, data_stream_fields, static_fields, lowest_shown, status_fields, mavlink_shown}

lowest_most : (l : LowestAnswer) → most (lowest_shown l) ≤ 47
lowest_most (bit b) = omega arith
lowest_most none = omega arith

squawk_most : (b : Bool) (n : ℕ) → most (cond b none (squawk n)) ≤ 4
squawk_most true n = omega arith
squawk_most false n = omega arith

pub message_most : (h : Header) (m : Message) (f : FailureAnswer) → length (mavlink_shown h m f) ≤ 1400
unfolding mavlink_shown
message_most h (DataStream d) f = simp length-append (omega (arith, fields_most (header_fields h), fields_most (data_stream_fields d)))
message_most h (Static s) f = simp length-append (omega (arith, fields_most (header_fields h), fields_most (static_fields s)))
message_most h (Dynamic d) f = simp length-append (omega (arith, fields_most (header_fields h), fields_most (dynamic_fields d)))
message_most h (Status s) f =
    simp length-append (omega (arith, fields_most (header_fields h), fields_most (status_fields s f), lowest_most f.lowest))
message_most h (Traffic t) f =
    simp length-append
    (omega (arith, fields_most (header_fields h), fields_most (traffic_fields t), squawk_most (eqb t.squawk 65535) t.squawk))
