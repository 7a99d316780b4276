-- The formats of these kinds are right. Assumes nothing.
use mathlib.Core.Path.{refl}
use native.Mathlib.Omega.{arith}
use Rattle.field_format.specs.Format.{Right}
use Rattle.mavlink_messages.specs.DataStream66.{data_stream_format}
use Rattle.mavlink_messages.specs.Static201.{static_format}
use Rattle.mavlink_messages.specs.Dynamic202.{dynamic_format}
use Rattle.mavlink_messages.specs.Status203.{status_format}
use Rattle.mavlink_messages.specs.Traffic246.{traffic_format}

pub data_stream_right : Right data_stream_format
data_stream_right = record { whole = omega arith; sound = omega arith; back = λ a. refl; again = λ r. refl }

pub static_right : Right static_format
static_right = record { whole = omega arith; sound = omega arith; back = λ a. refl; again = λ r. refl }

pub dynamic_right : Right dynamic_format
dynamic_right = record { whole = omega arith; sound = omega arith; back = λ a. refl; again = λ r. refl }

pub status_right : Right status_format
status_right = record { whole = omega arith; sound = omega arith; back = λ a. refl; again = λ r. refl }

pub traffic_right : Right traffic_format
traffic_right = record { whole = omega arith; sound = omega arith; back = λ a. refl; again = λ r. refl }
