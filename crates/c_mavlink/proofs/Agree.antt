-- A struct's octets hold the message that was stored in them: the two definitions agree. Assumes nothing.
use mathlib.Core.Path.{◌≡◌, refl}
use mathlib.Core.List.{[], ◌∷◌}
use native.Mathlib.Omega.{arith}
use Rattle.mavlink_frame.specs.declared.Header.{Header}
use Rattle.mavlink_messages.specs.declared.DataStream.{DataStream}
use Rattle.mavlink_messages.specs.declared.Static.{Static}
use Rattle.mavlink_messages.specs.declared.Dynamic.{Dynamic}
use Rattle.mavlink_messages.specs.declared.Status.{Status}
use Rattle.mavlink_messages.specs.declared.Traffic.{Traffic}
use Rattle.c_lent.specs.Structs.{RightStruct, struct_offsets, struct_size, stored, held, TypedIn}
use Rattle.c_lent.proofs.Structs.{held_stored}
use Rattle.c_mavlink.specs.Structs.{header_struct, data_stream_struct, static_struct, dynamic_struct, status_struct, traffic_struct}

-- ---- header
pub header_right : RightStruct header_struct
header_right = record { sound = omega arith; back = λ a. refl }

header_offsets : struct_offsets header_struct ≡ 0 ∷ 1 ∷ 2 ∷ []
header_offsets = refl

header_size : struct_size header_struct ≡ 3
header_size = refl

pub header_held_stored : (a : Header) → TypedIn header_struct a → held header_struct (stored header_struct a) ≡ a
header_held_stored = held_stored header_struct header_right

-- ---- data stream
data_stream_right : RightStruct data_stream_struct
data_stream_right = record { sound = omega arith; back = λ a. refl }

data_stream_offsets : struct_offsets data_stream_struct ≡ 0 ∷ 2 ∷ 3 ∷ 4 ∷ 5 ∷ []
data_stream_offsets = refl

data_stream_size : struct_size data_stream_struct ≡ 6
data_stream_size = refl

pub data_stream_held_stored : (a : DataStream) → TypedIn data_stream_struct a → held data_stream_struct (stored data_stream_struct a) ≡ a
data_stream_held_stored = held_stored data_stream_struct data_stream_right

-- ---- static
static_right : RightStruct static_struct
static_right = record { sound = omega arith; back = λ a. refl }

static_offsets : struct_offsets static_struct ≡ 0 ∷ 4 ∷ 6 ∷ 14 ∷ 15 ∷ 16 ∷ 17 ∷ 18 ∷ 19 ∷ []
static_offsets = refl

static_size : struct_size static_struct ≡ 20
static_size = refl

pub static_held_stored : (a : Static) → TypedIn static_struct a → held static_struct (stored static_struct a) ≡ a
static_held_stored = held_stored static_struct static_right

-- ---- dynamic
dynamic_right : RightStruct dynamic_struct
dynamic_right = record { sound = omega arith; back = λ a. refl }

dynamic_offsets : struct_offsets dynamic_struct ≡ 0 ∷ 4 ∷ 8 ∷ 12 ∷ 16 ∷ 20 ∷ 24 ∷ 26 ∷ 28 ∷ 30 ∷ 32 ∷ 34 ∷ 36 ∷ 38 ∷ 39 ∷ 40 ∷ 41 ∷ []
dynamic_offsets = refl

dynamic_size : struct_size dynamic_struct ≡ 44
dynamic_size = refl

pub dynamic_held_stored : (a : Dynamic) → TypedIn dynamic_struct a → held dynamic_struct (stored dynamic_struct a) ≡ a
dynamic_held_stored = held_stored dynamic_struct dynamic_right

-- ---- status
status_right : RightStruct status_struct
status_right = record { sound = omega arith; back = λ a. refl }

status_offsets : struct_offsets status_struct ≡ 0 ∷ []
status_offsets = refl

status_size : struct_size status_struct ≡ 1
status_size = refl

pub status_held_stored : (a : Status) → TypedIn status_struct a → held status_struct (stored status_struct a) ≡ a
status_held_stored = held_stored status_struct status_right

-- ---- traffic
traffic_right : RightStruct traffic_struct
traffic_right = record { sound = omega arith; back = λ a. refl }

traffic_offsets : struct_offsets traffic_struct ≡ 0 ∷ 4 ∷ 8 ∷ 12 ∷ 16 ∷ 18 ∷ 20 ∷ 22 ∷ 24 ∷ 26 ∷ 27 ∷ 35 ∷ 36 ∷ 37 ∷ []
traffic_offsets = refl

traffic_size : struct_size traffic_struct ≡ 40
traffic_size = refl

pub traffic_held_stored : (a : Traffic) → TypedIn traffic_struct a → held traffic_struct (stored traffic_struct a) ≡ a
traffic_held_stored = held_stored traffic_struct traffic_right
