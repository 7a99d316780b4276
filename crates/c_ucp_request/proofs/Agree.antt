-- The struct's octets hold the request that was stored in them: the two definitions agree. Assumes nothing.
use mathlib.Core.Path.{◌≡◌, refl}
use mathlib.Core.List.{[], ◌∷◌}
use native.Mathlib.Omega.{arith}
use lib.ListN.{length}
use Rattle.ucp_messages.specs.declared.Request.{Request}
use Rattle.c_lent.specs.Structs.{RightStruct, struct_offsets, struct_size, stored, held, TypedIn}
use Rattle.c_lent.proofs.Structs.{held_stored}
use Rattle.c_ucp_request.specs.Struct.{request_struct}

pub request_struct_right : RightStruct request_struct
request_struct_right = record { sound = omega arith; back = λ q. refl }

-- the ABI's offsets and size
request_struct_offsets : struct_offsets request_struct ≡ 0 ∷ []
request_struct_offsets = refl

request_struct_size : struct_size request_struct ≡ 1
request_struct_size = refl

pub stored_size : (q : Request) → length (stored request_struct q) ≡ 1
unfolding stored
stored_size q = refl

pub request_held_stored : (q : Request) → TypedIn request_struct q → held request_struct (stored request_struct q) ≡ q
request_held_stored = held_stored request_struct request_struct_right
