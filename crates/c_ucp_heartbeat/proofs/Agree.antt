-- The struct's octets hold the heartbeat that was stored in them: the two definitions agree. Assumes nothing.
use mathlib.Core.Path.{◌≡◌, refl}
use mathlib.Core.List.{[], ◌∷◌}
use native.Mathlib.Omega.{arith}
use lib.ListN.{length}
use Rattle.ucp_messages.specs.declared.Heartbeat.{Heartbeat}
use Rattle.c_lent.specs.Structs.{RightStruct, struct_offsets, struct_size, stored, held, TypedIn}
use Rattle.c_lent.proofs.Structs.{held_stored}
use Rattle.c_ucp_heartbeat.specs.Struct.{heartbeat_struct}

pub heartbeat_struct_right : RightStruct heartbeat_struct
heartbeat_struct_right = record { sound = omega arith; back = λ h. refl }

-- the ABI's offsets and size
heartbeat_struct_offsets : struct_offsets heartbeat_struct ≡ 0 ∷ 1 ∷ 2 ∷ 4 ∷ []
heartbeat_struct_offsets = refl

heartbeat_struct_size : struct_size heartbeat_struct ≡ 6
heartbeat_struct_size = refl

pub stored_size : (h : Heartbeat) → length (stored heartbeat_struct h) ≡ 6
unfolding stored
stored_size h = refl

pub heartbeat_held_stored : (h : Heartbeat) → TypedIn heartbeat_struct h → held heartbeat_struct (stored heartbeat_struct h) ≡ h
heartbeat_held_stored = held_stored heartbeat_struct heartbeat_struct_right
