-- A kind's writer and the framing of what it wrote make up its send, for every kind. Assumes nothing.
use mathlib.Core.Path.{◌≡◌}
use mathlib.Core.List.{List}
use Prim.Native.Nat.{ℕ, ◌≤◌}
use lib.ListN.{length}
use Rattle.std.specs.Prelude.{Result, Ok, Err}
use Rattle.refusals.specs.declared.Refusal.{Refusal}
use Rattle.field_format.specs.Format.{Format, fits, body_of}
use Rattle.output_writing.specs.Writing.{Written}
use Rattle.ucp_frame.specs.Frame.{longest_body, longest_frame}
use Rattle.ucp_writer.specs.Sends.{SendsBody}
use Rattle.ucp_writer.proofs.Sends.{send_refused, send_framed}
use Rattle.c_lent.specs.Writes.{WritesStruct}
use Rattle.c_lent.specs.Sends.{FramesIfWritten}

-- a kind whose bodies have so many octets
pub struct_sends : {A : Type 0} (f : Format A) (a : A) (buffer : List ℕ) (w : Result (Unit {0}) Refusal) (octets : ℕ) (answer : Written) {mid after : List ℕ}
    → length buffer ≡ longest_frame → 1 ≤ length (body_of f a) → length (body_of f a) ≤ longest_body
    → WritesStruct f a octets buffer w mid → FramesIfWritten w octets mid answer after
    → SendsBody (fits f a) (body_of f a) buffer answer after
struct_sends f a buffer (Err refusal) octets answer n least most first second =
    rw (second.0, second.1) (send_refused (body_of f a) buffer n (fits f a) (λ fit. (least, most)) first)
struct_sends f a buffer (Ok done) octets answer n least most first second =
    send_framed (body_of f a) buffer n (fits f a) (λ fit. (least, most)) first second
