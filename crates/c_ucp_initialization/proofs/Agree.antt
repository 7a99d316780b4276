-- The struct's octets hold the initialization that was stored in them: the two definitions agree. Assumes nothing.
use mathlib.Core.Path.{◌≡◌, refl}
use mathlib.Core.List.{[], ◌∷◌}
use native.Mathlib.Omega.{arith}
use lib.ListN.{length}
use Rattle.ucp_messages.specs.declared.Initialization.{Initialization}
use Rattle.c_lent.specs.Structs.{RightStruct, struct_offsets, struct_size, stored, held, TypedIn}
use Rattle.c_lent.proofs.Structs.{held_stored}
use Rattle.c_ucp_initialization.specs.Struct.{initialization_struct}

pub initialization_struct_right : RightStruct initialization_struct
initialization_struct_right = record { sound = omega arith; back = λ n. refl }

-- the ABI's offsets and size
initialization_struct_offsets : struct_offsets initialization_struct ≡ 0 ∷ 4 ∷ 8 ∷ 9 ∷ 17 ∷ 18 ∷ 19 ∷ 20 ∷ []
initialization_struct_offsets = refl

initialization_struct_size : struct_size initialization_struct ≡ 24
initialization_struct_size = refl

pub stored_size : (n : Initialization) → length (stored initialization_struct n) ≡ 24
unfolding stored
stored_size n = refl

pub initialization_held_stored : (n : Initialization) → TypedIn initialization_struct n → held initialization_struct (stored initialization_struct n) ≡ n
initialization_held_stored = held_stored initialization_struct initialization_struct_right
