-- The struct's octets hold the altitude that was stored in them: the two definitions agree. Assumes nothing.
use mathlib.Core.Path.{◌≡◌, refl}
use mathlib.Core.List.{[], ◌∷◌}
use native.Mathlib.Omega.{arith}
use lib.ListN.{length}
use Rattle.ucp_messages.specs.declared.GeometricAltitude.{GeometricAltitude}
use Rattle.c_lent.specs.Structs.{RightStruct, struct_offsets, struct_size, stored, held, TypedIn}
use Rattle.c_lent.proofs.Structs.{held_stored}
use Rattle.c_ucp_geometric_altitude.specs.Struct.{geometric_struct}

pub geometric_struct_right : RightStruct geometric_struct
geometric_struct_right = record { sound = omega arith; back = λ g. refl }

-- the ABI's offsets and size
geometric_struct_offsets : struct_offsets geometric_struct ≡ 0 ∷ 2 ∷ []
geometric_struct_offsets = refl

geometric_struct_size : struct_size geometric_struct ≡ 4
geometric_struct_size = refl

pub stored_size : (g : GeometricAltitude) → length (stored geometric_struct g) ≡ 4
unfolding stored
stored_size g = refl

pub geometric_held_stored : (g : GeometricAltitude) → TypedIn geometric_struct g → held geometric_struct (stored geometric_struct g) ≡ g
geometric_held_stored = held_stored geometric_struct geometric_struct_right
