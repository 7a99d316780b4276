-- The ranges of a payload's fields, and of a struct's, by their octets. Assumes nothing.
use mathlib.Core.Path.{◌≡◌, sym, ap}
use mathlib.Core.List.{List}
use Prim.Native.Nat.{ℕ}
use lib.ListN.{length, get_or}
use Rattle.field_layout.specs.Steps.{little16}
use Rattle.field_layout.proofs.Elements.{by_elements}
use Rattle.field_format.specs.Format.{value_in}
use Rattle.field_format.proofs.ByOctets.{by_octets}
use Rattle.mavlink_messages.specs.Ranges.{dynamic_fits, traffic_fits}
use Rattle.mavlink_messages.specs.Dynamic202.{dynamic_format}
use Rattle.mavlink_messages.specs.Traffic246.{traffic_format}
use Rattle.c_lent.specs.Structs.{held}
use Rattle.c_mavlink.specs.Structs.{dynamic_struct, traffic_struct}

pub dynamic_payload : (p : List ℕ) → length p ≡ 42 → dynamic_fits (little16 p 36) (get_or p 38 0) ≡ dynamic_format.ranges (value_in dynamic_format p)
unfolding value_in
dynamic_payload p n = ap dynamic_format.ranges (by_octets dynamic_format 42 p n)

pub dynamic_held : (m : List ℕ) → length m ≡ 44 → dynamic_fits (little16 m 36) (get_or m 38 0) ≡ dynamic_format.ranges (held dynamic_struct m)
unfolding held
dynamic_held m n = ap (λ (xs : List ℕ). dynamic_format.ranges (held dynamic_struct xs)) (sym (by_elements 44 m n))

pub traffic_payload : (p : List ℕ) → length p ≡ 38 → traffic_fits (little16 p 24) ≡ traffic_format.ranges (value_in traffic_format p)
unfolding value_in
traffic_payload p n = ap traffic_format.ranges (by_octets traffic_format 38 p n)

pub traffic_held : (m : List ℕ) → length m ≡ 40 → traffic_fits (little16 m 24) ≡ traffic_format.ranges (held traffic_struct m)
unfolding held
traffic_held m n = ap (λ (xs : List ℕ). traffic_format.ranges (held traffic_struct xs)) (sym (by_elements 40 m n))
