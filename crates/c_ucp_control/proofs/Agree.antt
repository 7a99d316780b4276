-- The struct's octets hold the control that was stored in them: the two definitions agree. Assumes nothing.
use mathlib.Core.Path.{◌≡◌, refl}
use mathlib.Core.List.{[], ◌∷◌}
use native.Mathlib.Omega.{arith}
use lib.ListN.{length}
use Rattle.ucp_messages.specs.declared.Control.{Control}
use Rattle.c_lent.specs.Structs.{RightStruct, struct_offsets, struct_size, stored, held, TypedIn}
use Rattle.c_lent.proofs.Structs.{held_stored}
use Rattle.c_ucp_control.specs.Struct.{control_struct}

pub control_struct_right : RightStruct control_struct
control_struct_right = record { sound = omega arith; back = λ c. refl }

-- the ABI's offsets and size
control_struct_offsets : struct_offsets control_struct ≡ 0 ∷ 1 ∷ 2 ∷ 3 ∷ 4 ∷ 5 ∷ 6 ∷ 8 ∷ 12 ∷ 14 ∷ 15 ∷ []
control_struct_offsets = refl

control_struct_size : struct_size control_struct ≡ 24
control_struct_size = refl

pub stored_size : (c : Control) → length (stored control_struct c) ≡ 24
unfolding stored
stored_size c = refl

pub control_held_stored : (c : Control) → TypedIn control_struct c → held control_struct (stored control_struct c) ≡ c
control_held_stored = held_stored control_struct control_struct_right
