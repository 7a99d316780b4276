-- A struct that lies as its payload does, with padding behind: what it holds is what the payload carries. Proved once for every
-- such struct. Assumes nothing.
use mathlib.Core.Path.{◌≡◌, refl, sym, ap, ◌∙◌}
use mathlib.Core.List.{List, ◌++◌}
use Prim.Native.Nat.{ℕ, ◌+◌}
use native.Mathlib.Omega.{arith}
use lib.ListN.{length, take, replicate}
use lib.Seq.{length-take-le}
use Rattle.std.proofs.Common.{Fits, w8, get_or, ◌≤◌}
use Rattle.crc_polynomial.specs.Polynomial.{Octets}
use Rattle.mavlink_frame.specs.Reader.{payload_at}
use Rattle.field_layout.proofs.Elements.{elements, by_elements}
use Rattle.field_format.specs.Format.{Format, body_of, value_in}
use Rattle.field_format.proofs.Formats.{body_again}
use Rattle.mavlink_messages.specs.DataStream66.{data_stream_format}
use Rattle.mavlink_messages.specs.Dynamic202.{dynamic_format}
use Rattle.mavlink_messages.specs.Status203.{status_format}
use Rattle.mavlink_messages.specs.Traffic246.{traffic_format}
use Rattle.mavlink_messages.proofs.Formats.{data_stream_right, dynamic_right, status_right, traffic_right}
use Rattle.c_lent.specs.Structs.{Struct, stored, held}
use Rattle.c_mavlink.specs.Structs.{data_stream_struct, dynamic_struct, status_struct, traffic_struct}
use Rattle.c_mavlink.proofs.Parts.{part_octets, payload_length}

-- the members are the format's items, in the same order and widths, and then so many octets of padding
pub record LiesAs {A : Type 0} (f : Format A) (s : Struct A) (n pad : ℕ) : Type 0 where
  pub again : (p : List ℕ) → Octets p → length p ≡ n → body_of f (value_in f p) ≡ p
  pub stores : (a : A) → stored s a ≡ body_of f a ++ replicate pad 0
  pub holds : (m : List ℕ) → length m ≡ n + pad → held s m ≡ value_in f (take n m)

module _ {A : Type 0} {f : Format A} {s : Struct A} {n pad : ℕ} (as-payload : LiesAs f s n pad) where
  pub payload_stored : (p : List ℕ) → Octets p → length p ≡ n → p ++ replicate pad 0 ≡ stored s (value_in f p)
  payload_stored p is e =
      ap (λ (xs : List ℕ). xs ++ replicate pad 0) (sym (as-payload.again p is e)) ∙ sym (as-payload.stores (value_in f p))

  pub payload_held : (m : List ℕ) → Octets m → length m ≡ n + pad → take n m ≡ body_of f (held s m)
  payload_held m is e =
      sym (as-payload.again (take n m) (part_octets n 0 m (omega arith) is) (length-take-le n m (omega arith)))
      ∙ ap (body_of f) (sym (as-payload.holds m e))

  -- the payload of a frame that is there, with the padding behind
  pub taken_stored : (frame : List ℕ) → ((i : ℕ) → Fits w8 (get_or frame i 0)) → n + 8 ≤ length frame
      → payload_at n frame ++ replicate pad 0 ≡ stored s (value_in f (payload_at n frame))
  taken_stored frame is room =
      payload_stored (payload_at n frame) (part_octets n 6 frame (omega arith) (λ i. (is i).fits)) (payload_length n frame room)

-- what a struct holds, octet by octet
by_octets : {A : Type 0} (f : Format A) (s : Struct A) (n size : ℕ) (m : List ℕ) → length m ≡ size
    → held s (elements size 0 m) ≡ value_in f (take n (elements size 0 m)) → held s m ≡ value_in f (take n m)
by_octets f s n size m e same =
    ap (held s) (by_elements size m e) ∙ same ∙ ap (λ (xs : List ℕ). value_in f (take n xs)) (sym (by_elements size m e))

pub data_stream_lies : LiesAs data_stream_format data_stream_struct 6 0
unfolding body_of value_in stored held
data_stream_lies =
    record {
      again = λ p is e. body_again data_stream_format data_stream_right p is e tt refl;
      stores = λ d. refl;
      holds = λ m e. by_octets data_stream_format data_stream_struct 6 6 m e refl;
    }

pub dynamic_lies : LiesAs dynamic_format dynamic_struct 42 2
unfolding body_of value_in stored held
dynamic_lies =
    record {
      again = λ p is e. body_again dynamic_format dynamic_right p is e tt refl;
      stores = λ d. refl;
      holds = λ m e. by_octets dynamic_format dynamic_struct 42 44 m e refl;
    }

pub status_lies : LiesAs status_format status_struct 1 0
unfolding body_of value_in stored held
status_lies =
    record {
      again = λ p is e. body_again status_format status_right p is e tt refl;
      stores = λ d. refl;
      holds = λ m e. by_octets status_format status_struct 1 1 m e refl;
    }

pub traffic_lies : LiesAs traffic_format traffic_struct 38 2
unfolding body_of value_in stored held
traffic_lies =
    record {
      again = λ p is e. body_again traffic_format traffic_right p is e tt refl;
      stores = λ d. refl;
      holds = λ m e. by_octets traffic_format traffic_struct 38 40 m e refl;
    }
