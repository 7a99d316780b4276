-- The struct's octets hold the report that was stored in them: the two definitions agree. Assumes nothing.
use mathlib.Core.Path.{◌≡◌, refl}
use mathlib.Core.List.{[], ◌∷◌}
use native.Mathlib.Omega.{arith}
use lib.ListN.{length}
use Rattle.ucp_messages.specs.declared.Report.{Report}
use Rattle.c_lent.specs.Structs.{RightStruct, struct_offsets, struct_size, stored, held, TypedIn}
use Rattle.c_lent.proofs.Structs.{held_stored}
use Rattle.c_ucp_report.specs.Struct.{report_struct}

pub report_struct_right : RightStruct report_struct
report_struct_right = record { sound = omega arith; back = λ r. refl }

-- the ABI's offsets and size
report_struct_offsets : struct_offsets report_struct
    ≡ 0 ∷ 1 ∷ 4 ∷ 8 ∷ 12 ∷ 16 ∷ 18 ∷ 19 ∷ 20 ∷ 22 ∷ 24 ∷ 26 ∷ 27 ∷ 28 ∷ 36 ∷ 37 ∷ []
report_struct_offsets = refl

report_struct_size : struct_size report_struct ≡ 40
report_struct_size = refl

pub stored_size : (r : Report) → length (stored report_struct r) ≡ 40
unfolding stored
stored_size r = refl

pub report_held_stored : (r : Report) → TypedIn report_struct r → held report_struct (stored report_struct r) ≡ r
report_held_stored = held_stored report_struct report_struct_right
